-- The notions of `s57`: what a host program in C is promised.
pub mod Returned
