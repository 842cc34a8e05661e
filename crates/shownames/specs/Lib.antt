-- The notion of `shownames`.
pub mod Named
pub mod Premises
