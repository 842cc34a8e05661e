-- Laws of `formats`.
pub mod FormatsLaws
pub mod FormatsBounds
pub mod FormatsExamples
