-- Laws of `chart`.
pub mod ReadLaws
pub mod Promise
