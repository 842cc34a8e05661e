-- Laws that the crates above lean on.
pub mod FirstLaws
pub mod AnswerLaws
pub mod OutcomeLaws
pub mod SixteenLaws
pub mod SmallLaws
