-- The notions of `edits`, in the order in which a reader should meet them.
pub mod Control
pub mod AttributeEdit
pub mod OnePass
pub mod Lists
pub mod InsertDelete
pub mod Examples
