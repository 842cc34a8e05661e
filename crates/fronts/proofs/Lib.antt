-- The laws of `fronts`.
pub mod FrontLaws
