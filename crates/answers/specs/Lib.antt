-- The notions of `answers`, in the order in which a reader should meet them.
pub mod Codes
pub mod Answer
pub mod First
pub mod Sixteen
