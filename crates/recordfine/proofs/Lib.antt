-- The laws of `recordfine`.
pub mod DigitLaws
pub mod OpenLaws
pub mod WalkLaws
pub mod FrontLaws
