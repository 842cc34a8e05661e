-- The notion of `revisedfront`.
pub mod Front
