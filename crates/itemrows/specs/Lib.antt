-- The notions of `itemrows`, in the order in which a reader should meet them: a record that stands as in held form, and one whose lists are joined.
pub mod Plain
pub mod Joined
