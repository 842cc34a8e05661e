-- Each test of the definition in its order.
use Rattle.octets.proofs.Tests.{chain}
use Rattle.vectorshape.specs.Shape.{point_good}
use Rattle.shape.proofs.spatial.point_good.Goals as goal

pub returns-then-not-is_node : goal.returns-then-not-is_node
unfolding point_good
returns-then-not-is_node c = search chain depth 12

pub returns-then-e : goal.returns-then-e
unfolding point_good
returns-then-e c = search chain depth 12

pub returns-then-e-2 : goal.returns-then-e-2
unfolding point_good
returns-then-e-2 c = search chain depth 12

pub returns : goal.returns
unfolding point_good
returns c = search chain depth 12
