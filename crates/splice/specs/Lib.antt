-- The notions of `splice`, in the order in which a reader should meet them.
pub mod Given
pub mod Put
