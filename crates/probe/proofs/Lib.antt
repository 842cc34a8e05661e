-- Laws of `probe`.
pub mod VerdictLaws
pub mod WalkLaws
pub mod CutLaws
