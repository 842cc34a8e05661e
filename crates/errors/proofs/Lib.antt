-- The errors that document 01 has met.
pub mod ErrorsMet
