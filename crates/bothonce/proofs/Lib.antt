-- The laws of `bothonce`.
pub mod UpdateLaws
pub mod RaiseLaws
pub mod TogetherLaws
