-- More that the calls do with small files: all but Computing is what the owner reads.
pub mod Computing
pub mod Edited
pub mod Premise
pub mod Shown
