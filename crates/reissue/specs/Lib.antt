-- The notions of `reissue`: what its code asks and answers. What is to be believed stands in `held`.
pub mod Tally
pub mod Plan
