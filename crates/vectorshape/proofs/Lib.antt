-- The laws of `vectorshape`.
pub mod ShapeLaws
pub mod EdgeLaws
pub mod ChunkLaws
