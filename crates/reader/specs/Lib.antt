-- The notions of `reader`, in the order in which a reader should meet them.
pub mod Reader
pub mod Calls
pub mod Lent
