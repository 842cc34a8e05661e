-- Laws, one file for each notion.
pub mod PartLaws
pub mod StampLaws
pub mod AttributesLaws
pub mod FfptLaws
