-- The notions of `ring`, in the order in which a reader should meet them.
pub mod Ring
pub mod Walk
pub mod Examples
