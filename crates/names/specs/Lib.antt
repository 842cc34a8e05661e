-- The notions of `names`, in the order in which a reader should meet them.
pub mod Names
pub mod NameWords
pub mod Area
pub mod Neighbours
pub mod Held
pub mod Premises
pub mod Examples
