-- The notions of `fieldfine`.
pub mod Told
pub mod Text
pub mod Place
