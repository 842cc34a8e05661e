-- The laws of `lying`.
pub mod LyingLaws
