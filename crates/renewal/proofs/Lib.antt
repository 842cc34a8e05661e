-- The laws of `renewal`: for the crates above `objects_are`, `laid_items`, `items_kept`, `objects_kept` and `renewed_is`, the others for the
-- proofs of this crate.
pub mod ItemLaws
pub mod SameLaws
pub mod ResultLaws
pub mod ReadyLaws
