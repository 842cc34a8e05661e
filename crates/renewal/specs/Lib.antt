-- The notions of `renewal`: what its code asks and answers. What is to be believed stands in `held` and `changes`.
pub mod Renewed
pub mod Same
