pub mod Options
pub mod Currencies
pub mod Codes
pub mod CodeOrders
pub mod Ranges
pub mod Statuses
pub mod Causes
pub mod Refusals
