-- For the crates above: `put_refused`, `put_allowed`, `put_done` (PutLaws), `edited_bytes` (SpliceLaws).
-- The others are for the proofs of this crate.
pub mod ControlLaws
pub mod PutLaws
pub mod SpliceLaws
