-- The notions of `header`, in the order in which a reader should meet them.
pub mod First
pub mod Dsid
pub mod Dssi
pub mod Known
pub mod Literal
