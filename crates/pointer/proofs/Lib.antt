-- Laws of `pointer`: those of its code.
pub mod PointerLaws
