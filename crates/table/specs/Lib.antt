-- The notions of `table`, in the order in which a reader should meet them.
pub mod Text
pub mod Table
pub mod Offsets
pub mod Widths
pub mod Premises
