-- The notion of `cases`.
pub mod OtherUpdates
