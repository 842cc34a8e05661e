-- Laws of `reader`.
pub mod FrontLaws
pub mod ReaderLaws
pub mod Only
