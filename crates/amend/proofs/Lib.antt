-- Laws of `amend`.
pub mod ControlLaws
pub mod SidesLaws
pub mod EditLaws
pub mod RuleLaws
