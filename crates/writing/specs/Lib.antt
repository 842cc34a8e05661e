-- The notions of `writing`, in the order in which a reader should meet them.
pub mod All
