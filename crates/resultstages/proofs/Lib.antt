-- The laws of `resultstages`.
pub mod FrontLaws
pub mod ResultLaws
pub mod MergeLaws
