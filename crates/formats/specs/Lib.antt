-- The notion of `formats`.
pub mod Formats
pub mod Premises
