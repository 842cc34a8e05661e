-- Laws of `changes`.
pub mod AmendLaws
pub mod FollowLaws
pub mod FitLaws
pub mod HeldLaws
pub mod ObjectLaws
pub mod RevisedLaws
pub mod GoodLaws
pub mod KeptLaws
pub mod RulesLaws
pub mod RecordLaws
pub mod NameLaws
pub mod HeaderLaws
pub mod ControlLaws
pub mod ToldLaws
pub mod WordLaws
