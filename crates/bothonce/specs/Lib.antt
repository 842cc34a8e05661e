-- The notions of `bothonce`, in the order in which a reader should meet them.
pub mod Both
