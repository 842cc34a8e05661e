-- By the primitive.
use Rattle.octets.proofs.Tests.{tests}
use Rattle.vectorshape.specs.Shape.{spatial_good}
use Rattle.shape.proofs.spatial.spatial_good.Goals as goal

pub returns-then-prim-eq1 : goal.returns-then-prim-eq1
unfolding spatial_good
returns-then-prim-eq1 c = search tests

pub returns-then-prim-eq2 : goal.returns-then-prim-eq2
unfolding spatial_good
returns-then-prim-eq2 c = search tests

pub returns : goal.returns
unfolding spatial_good
returns c = search tests
