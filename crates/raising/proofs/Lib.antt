-- The laws of `raising`.
pub mod FrontLaws
