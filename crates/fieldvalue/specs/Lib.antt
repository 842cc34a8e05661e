-- The notions of `fieldvalue`, in the order in which a reader should meet them.
pub mod Value
pub mod Judged
