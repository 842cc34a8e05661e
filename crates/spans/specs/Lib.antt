-- The notion of `spans`.
pub mod Spans
