-- What demand 3 speaks of, in the order in which a reader should meet it.
pub mod Unit
pub mod Reissue
pub mod Enough
pub mod Library
