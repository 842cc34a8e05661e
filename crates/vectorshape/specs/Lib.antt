-- The notion of `vectorshape`, of features too, and examples.
pub mod Shape
pub mod Examples
