-- The laws of `itemrows`.
pub mod RowLaws
pub mod PlanLaws
pub mod ChosenLaws
pub mod TakenLaws
