-- The notion of `dates`.
pub mod Date
