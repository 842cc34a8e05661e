-- The notions of `quickfeatures`.
pub mod Quick
pub mod Trod
