-- The notion of `resultstages`: what is known before each stage of Apply.
pub mod Stages
