-- The laws of `reissue`.
pub mod TallyLaws
pub mod PlanLaws
pub mod WordLaws
