-- The notions of `dataset`, in the order in which a reader should meet them.
pub mod Dsid
pub mod Premises
