-- The laws of `counted`.
pub mod CountsLaws
