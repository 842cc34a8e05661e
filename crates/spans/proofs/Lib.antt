-- The laws of `spans`: those of tags, of the walk, and of what a caller learns.
pub mod TagLaws
pub mod SpanLaws
pub mod StrideLaws
