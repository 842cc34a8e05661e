-- The notions of `iso8211`, in the order in which a reader should meet them.
pub mod Leader
pub mod Directory
pub mod Record
pub mod File
pub mod Field
pub mod Premises
