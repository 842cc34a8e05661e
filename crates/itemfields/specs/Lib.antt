-- The notions of `itemfields`, in the order in which a reader should meet them.
pub mod Fields
pub mod Views
pub mod Good
