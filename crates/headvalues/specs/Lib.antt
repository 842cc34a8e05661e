-- The notions of `headvalues`, in the order in which a reader should meet them.
pub mod Text
pub mod Dssi
pub mod Dspm
pub mod Premises
