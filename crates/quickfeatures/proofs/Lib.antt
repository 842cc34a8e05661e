-- The laws of `quickfeatures`: those of the walk along rings, of the walk over names, of LNAMs, and of a feature.
pub mod TrodLaws
pub mod NameLaws
pub mod LnamLaws
pub mod FeatureLaws
