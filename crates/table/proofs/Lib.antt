-- Laws of the table.
pub mod TableLaws
pub mod Agreement
