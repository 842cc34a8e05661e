-- The laws of `declarations`, and examples.
pub mod DescribedLaws
pub mod Examples
