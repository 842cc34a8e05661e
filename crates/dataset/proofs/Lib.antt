-- Laws of `dataset`: what the crates above may use is Promise and `dsid_is_laid` of DsidLaws; and examples.
pub mod DsidLaws
pub mod Promise
pub mod Examples
