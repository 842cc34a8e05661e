-- Laws of `revision`.
pub mod FollowingLaws
pub mod StandLaws
pub mod AbleLaws
pub mod ObjectsLaws
