-- The notions of `layout`, in the order in which a reader should meet them.
pub mod Layout
pub mod Record
pub mod General
pub mod Premises
