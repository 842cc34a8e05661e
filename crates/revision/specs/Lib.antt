-- The notions of `revision`.
pub mod Following
