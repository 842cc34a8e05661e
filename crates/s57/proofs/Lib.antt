-- Laws of `s57`.
pub mod Only
