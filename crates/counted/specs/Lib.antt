-- The notions of `counted`, in the order in which a reader should meet them.
pub mod Counts
pub mod Tallies
