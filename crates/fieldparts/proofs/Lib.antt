-- The laws of `fieldparts`.
pub mod SameLaws
pub mod DescriptiveLaws
