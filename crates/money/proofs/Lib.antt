pub mod EachCurrency
pub mod Readings
pub mod CodeOrderLaws
pub mod CodeReadings
