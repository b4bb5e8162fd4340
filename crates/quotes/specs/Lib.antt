pub mod Given
pub mod Rates
pub mod Quoted
