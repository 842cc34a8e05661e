-- The notions of `loader`, in the order in which a reader should meet them.
pub mod Admit
pub mod Apply
pub mod BenchSheet
pub mod Settling
