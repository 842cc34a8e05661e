-- By the test.
use Rattle.octets.proofs.Tests.{tests}
use Rattle.vectorshape.specs.Shape.{one_or_two}
use Rattle.shape.proofs.spatial.one_or_two.Goals as goal

pub returns-then-v-eq1 : goal.returns-then-v-eq1
unfolding one_or_two
returns-then-v-eq1 c = search tests

pub returns : goal.returns
unfolding one_or_two
returns c = search tests
