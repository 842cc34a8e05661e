-- Laws of `amendments`.
pub mod CodeLaws
pub mod LookupLaws
pub mod FaultLaws
pub mod AmendableLaws
