-- The laws of `allowed`.
pub mod BroughtLaws
pub mod AddsLaws
pub mod IdentityLaws
