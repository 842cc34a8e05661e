-- Laws of `names`: what the crates above may use is in NamesLaws, ItemsLaws, NeighboursLaws, ReadableLaws, NamedLaws, LookupLaws, HeldLaws and OnceLaws; the
-- others are for the proofs of this crate.
pub mod WalkLaws
pub mod NamesLaws
pub mod CollectLaws
pub mod ItemsLaws
pub mod RepeatLaws
pub mod NeighboursLaws
pub mod TwiceLaws
pub mod ReadableLaws
pub mod NamedLaws
pub mod HeldLaws
pub mod OnceLaws
