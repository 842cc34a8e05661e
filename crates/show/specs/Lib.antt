-- The notions of `show`, in the order in which a reader should meet them.
pub mod Show
pub mod Place
pub mod Shows
pub mod Listed
pub mod Examples
