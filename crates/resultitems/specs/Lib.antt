-- The notions of `resultitems`, in the order in which a reader should meet them: one item, and all of them in the order of the walk.
pub mod Result
pub mod Able
pub mod Spared
pub mod Items
