-- The wrong loaders.
pub mod Loaders
