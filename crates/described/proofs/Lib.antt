-- Laws of `described`: what the crates above may use is Promise; DescribedLaws is for the proofs of this crate.
pub mod Promise
