-- The notions of `held`, in the order in which a reader should meet them.
pub mod Chart
pub mod Held
pub mod Limits
pub mod Good
