pub mod Records
pub mod Endings
pub mod Admissions
