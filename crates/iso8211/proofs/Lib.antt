-- Laws of `iso8211`: what the crates above may use is Promise; the others are for the proofs of this crate.
pub mod DirectoryLaws
pub mod RecordLaws
pub mod FileLaws
pub mod Promise
