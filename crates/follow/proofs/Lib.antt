-- Laws of `follow`.
pub mod FollowLaws
