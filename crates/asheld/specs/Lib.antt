-- The notions of `asheld`: a record whose bytes are those of the held form.
pub mod Held
