-- By the test.
use Rattle.octets.proofs.Tests.{tests}
use Rattle.vectorshape.specs.Shape.{spatial_count}
use Rattle.shape.proofs.spatial.spatial_count.Goals as goal

pub returns-then-prim-eq1 : goal.returns-then-prim-eq1
unfolding spatial_count
returns-then-prim-eq1 c = search tests

pub returns : goal.returns
unfolding spatial_count
returns c = search tests
