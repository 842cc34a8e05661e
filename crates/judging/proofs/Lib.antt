-- The laws of `judging`.
pub mod JudgeLaws
