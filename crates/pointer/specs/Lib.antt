-- The notions of `pointer`, in the order in which a reader should meet them.
pub mod Pointer
pub mod Premises
pub mod Examples
