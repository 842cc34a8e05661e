-- The laws of `lookups`.
pub mod LookupLaws
