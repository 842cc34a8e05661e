-- The notion of `quickvectors`.
pub mod Quick
