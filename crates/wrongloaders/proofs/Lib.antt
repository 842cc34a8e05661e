-- That the promise shuts each of them out.
pub mod Wrong
