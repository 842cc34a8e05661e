-- The notion of `lying`.
pub mod Lying
