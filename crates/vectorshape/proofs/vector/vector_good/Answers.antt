-- The class, then the coordinates.
use Rattle.octets.proofs.Tests.{chain}
use Rattle.vectorshape.specs.Shape.{vector_good}
use Rattle.vectorshape.proofs.vector.vector_good.Goals as goal

pub returns-then-not-class_good : goal.returns-then-not-class_good
unfolding vector_good
returns-then-not-class_good c = search chain depth 12

pub returns : goal.returns
unfolding vector_good
returns c = search chain depth 12
