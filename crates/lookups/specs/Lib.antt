-- The notion of `lookups`, and examples.
pub mod LookupWords
pub mod Lookup
pub mod LookupExamples
