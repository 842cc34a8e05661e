-- Laws of `apply`.
pub mod ApplyLaws
