-- The notions of `attributes`.
pub mod Attributes
pub mod Premises
pub mod Judged
pub mod Examples
