pub mod Lists
pub mod Ranges
pub mod TermReadings
pub mod Namings
pub mod PriorityReadings
pub mod Ceilings
pub mod SoundAccounts
pub mod SoundBookings
