-- The laws of `joining`: a list by the fields that bring it.
pub mod PartLaws
