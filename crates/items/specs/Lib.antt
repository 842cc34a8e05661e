-- The notions of `items`, in the order in which a reader should meet them.
pub mod Lists
pub mod Cursors
pub mod Word
pub mod Identity
pub mod Item
pub mod Premises
pub mod Examples
