-- The notion of `raising`.
pub mod Record
