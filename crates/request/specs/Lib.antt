pub mod Causes
pub mod Faults
pub mod Subjects
pub mod Openings
