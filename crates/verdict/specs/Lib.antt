-- The notions of `verdict`.
pub mod Verdict
