pub mod CutLaws
pub mod RowLaws
pub mod DigitLaws
pub mod Spellings
