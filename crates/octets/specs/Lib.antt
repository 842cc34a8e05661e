-- The notions of `octets`, in the order in which a reader should meet them.
pub mod Number
pub mod Digits
pub mod Lists
pub mod Place
pub mod Premises
pub mod Told
pub mod Area
