-- The laws of `asheld`.
pub mod PartLaws
pub mod DigitLaws
pub mod RowLaws
pub mod SizeLaws
pub mod WriteLaws
pub mod FrontLaws
