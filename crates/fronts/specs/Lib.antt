-- The notion of `fronts`: what its code asks and answers. What is to be believed stands in `held`.
pub mod Front
