-- The notions of `probe`, in the order in which a reader should meet them.
pub mod Verdict
