-- The notions of `recordfine`.
pub mod Told
pub mod Premises
pub mod Walk
