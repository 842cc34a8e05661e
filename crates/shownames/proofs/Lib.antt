-- The laws of `shownames`.
pub mod NamedLaws
