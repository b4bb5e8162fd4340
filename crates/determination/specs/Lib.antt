pub mod Roundings
pub mod Valuations
pub mod Balances
pub mod Walks
pub mod Calls
pub mod Determinations
pub mod Standings
pub mod Laws
