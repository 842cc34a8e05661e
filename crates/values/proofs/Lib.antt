-- Laws of `values`, one file for each notion of specs/ that has some, and examples.
pub mod Examples
pub mod FaultLaws
pub mod RuleLaws
pub mod ClassLaws
