-- Laws of `rebuild`.
pub mod SumLaws
pub mod PuttingLaws
pub mod RecordLaws
