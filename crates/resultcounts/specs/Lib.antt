-- The notion of `resultcounts`.
pub mod Counts
