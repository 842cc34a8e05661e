-- The laws of `quickvectors`: those of the loop over coordinates, and of a vector.
pub mod CoordinateLaws
pub mod VectorLaws
