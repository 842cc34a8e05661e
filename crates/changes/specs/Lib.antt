-- The notions of `changes`, in the order in which a reader should meet them.
pub mod Change
pub mod Follow
pub mod Amend
pub mod Updated
pub mod Rules
pub mod Good
pub mod Examples
pub mod Told
