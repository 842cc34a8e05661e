-- What the calls do with the small files: all but Computing and the laws are what the owner reads.
pub mod Computing
pub mod BytesLaws
pub mod HeldLaws
pub mod WorkLaws
pub mod Judged
pub mod Admitted
pub mod Applied
pub mod Demand2
