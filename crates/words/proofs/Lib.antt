-- Laws that the crates above lean on, one file for each notion of specs/.
pub mod WordsLaws
pub mod OrderLaws
pub mod SortLaws
pub mod FindLaws
pub mod HeapLaws
pub mod ReverseLaws
pub mod ArrangeLaws
