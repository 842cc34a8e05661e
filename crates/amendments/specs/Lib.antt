-- The notions of `amendments`.
pub mod Amendable
