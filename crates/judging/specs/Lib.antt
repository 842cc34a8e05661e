-- The notion of `judging`.
pub mod Judge
