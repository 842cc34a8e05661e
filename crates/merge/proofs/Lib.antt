-- Laws of `merge`: what the crates above may use is in UpdatedLaws, UpdateLaws, KeptLaws, RuinLaws, PlacesLaws, MeantLaws, SitedLaws,
-- FilesLaws and IndexLaws; the others are for the proofs of this crate.
pub mod UpdatedLaws
pub mod UpdateLaws
pub mod KeptLaws
pub mod TurnLaws
pub mod WeaveLaws
pub mod MarksLaws
pub mod RuinLaws
pub mod WovenLaws
pub mod WalkLaws
pub mod PlacesLaws
pub mod JoinedLaws
pub mod MeantLaws
pub mod SitedLaws
pub mod FilesLaws
pub mod InsertLaws
pub mod IndexLaws
