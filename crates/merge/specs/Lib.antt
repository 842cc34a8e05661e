-- The notions of `merge`, in the order in which a reader should meet them.
pub mod Update
pub mod Targets
pub mod Updated
pub mod Words
pub mod Area
pub mod Places
pub mod Woven
pub mod Files
pub mod Meant
pub mod Sited
pub mod Examples
