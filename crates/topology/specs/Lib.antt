-- The notions of `topology`, in the order in which a reader should meet them.
pub mod Topology
pub mod Notes
