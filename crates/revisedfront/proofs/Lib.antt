-- The laws of `revisedfront`.
pub mod FrontLaws
