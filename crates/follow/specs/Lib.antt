-- The notions of `follow`.
pub mod Headed
