-- The notions of `fieldparts`, in the order in which a reader should meet them.
pub mod Same
pub mod Descriptive
pub mod PartsPremises
