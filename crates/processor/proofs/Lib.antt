pub mod Ordered
pub mod Admitted
pub mod SheetLaws
