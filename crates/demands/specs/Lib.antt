-- What the demands speak of, in the order in which a reader should meet it.
pub mod Cell
pub mod Sound
pub mod Accepted
pub mod Update
pub mod Written
pub mod Verdict
pub mod ByteChart
