-- The laws of `labelled`; for the crates above `blank_zeros` and `blank_is` (TableLaws).
pub mod TableLaws
pub mod FoundLaws
pub mod WorkedLaws
pub mod OnceLaws
