-- The notions of `readonce`, in the order in which a reader should meet them.
pub mod Once
