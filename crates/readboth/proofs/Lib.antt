-- The laws of `readboth`.
pub mod BothLaws
pub mod CallLaws
