-- The laws of `resultcounts`.
pub mod TallyLaws
