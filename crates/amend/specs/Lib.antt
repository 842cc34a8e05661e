-- The notions of `amend`.
pub mod Controls
pub mod Sides
pub mod Pairs
