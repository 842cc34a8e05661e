-- The laws of `fieldvalue`.
pub mod ValueLaws
