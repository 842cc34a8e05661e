-- The laws of `fieldfine`.
pub mod FullLaws
pub mod TextLaws
pub mod ListLaws
pub mod PlaceLaws
pub mod FieldLaws
