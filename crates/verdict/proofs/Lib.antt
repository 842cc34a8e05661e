-- Laws of `verdict`.
pub mod VerdictLaws
