-- The laws of `writing`: for the crates above `cell_writable` and `stood`, the others for the proofs of this crate.
pub mod JoinedLaws
pub mod FieldLaws
pub mod CopyLaws
pub mod StandLaws
pub mod PlainLaws
pub mod HeldLaws
pub mod AllLaws
pub mod WritableLaws
pub mod StoodLaws
