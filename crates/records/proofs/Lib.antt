pub mod FieldLaws
pub mod AdmissionLaws
pub mod Unbarred
