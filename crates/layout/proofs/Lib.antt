-- Laws of `layout`: of the table's kinds, of the walk over a record's fields, and what the crates above may use.
mod Examples
pub mod KindLaws
pub mod GeneralLaws
pub mod LayoutLaws
pub mod Promise
