-- Laws that the crates above lean on.
pub mod FileLaws
pub mod NameLaws
pub mod OrderLaws
pub mod ReadsBack
pub mod CellLaws
pub mod LimitsLaws
