-- The notion of `labelled`.
pub mod Table
