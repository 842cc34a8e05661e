-- The notions of `words`, in the order in which a reader should meet them.
pub mod Words
pub mod Order
pub mod Find
pub mod Heap
pub mod Arrange
pub mod Examples
