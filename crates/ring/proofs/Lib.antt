-- Laws of `ring`: those of an edge's ends and of its step in StepLaws, those of the walk along the rings in RingLaws.
pub mod StepLaws
pub mod RingLaws
