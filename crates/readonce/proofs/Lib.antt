-- The laws of `readonce`.
pub mod ItemLaws
pub mod PassLaws
pub mod CellLaws
