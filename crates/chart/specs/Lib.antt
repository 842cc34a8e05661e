-- The notions of `chart`, in the order in which a reader should meet them.
pub mod Read
pub mod Before
