-- Laws that the crates above lean on.
pub mod ViewLaws
pub mod KindLaws
pub mod LaidLaws
pub mod IdLaws
pub mod FieldsLaws
pub mod ItemLaws
pub mod JoinLaws
pub mod ReadLaws
pub mod BytesLaws
