-- Laws that the crates above lean on: of cases and tests first, then one file for each notion of specs/.
pub mod Cases
pub mod Tests
pub mod NumberLaws
pub mod AreaLaws
pub mod DigitsLaws
pub mod WidthLaws
pub mod ListLaws
pub mod PlaceLaws
