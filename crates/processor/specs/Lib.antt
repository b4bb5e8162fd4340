pub mod Sheets
pub mod Prints
pub mod Performances
pub mod Laws
pub mod Processors
pub mod Checks
