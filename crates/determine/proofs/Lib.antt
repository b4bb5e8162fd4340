mod Ranges
mod Rated
mod Values
pub mod Listings
mod Mapped
mod Payments
mod Besides
mod Determined
