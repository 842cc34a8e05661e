-- The notions of `entries`, in the order in which a reader should meet them.
pub mod Entries
pub mod Premises
pub mod Rules
pub mod Examples
