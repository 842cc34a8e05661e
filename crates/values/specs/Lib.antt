-- The notions of `values`, in the order in which a reader should meet them.
pub mod Fault
pub mod Rule
pub mod Class
pub mod Vrid
pub mod Frid
