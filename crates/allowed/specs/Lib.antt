-- The notion of `allowed`.
pub mod Brought
