-- Laws that the crates above lean on.
pub mod ControlLaws
pub mod AttributeLaws
pub mod OnePassLaws
pub mod GoodLaws
pub mod ListsLaws
pub mod CoordinatesLaws
pub mod InsertLaws
