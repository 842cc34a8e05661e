-- By the test.
use Rattle.octets.proofs.Tests.{tests}
use Rattle.vectorshape.specs.Shape.{is_node}
use Rattle.shape.proofs.spatial.is_node.Goals as goal

pub returns-then-v-eq110 : goal.returns-then-v-eq110
unfolding is_node
returns-then-v-eq110 c = search tests

pub returns : goal.returns
unfolding is_node
returns c = search tests
