use Rattle.octets.proofs.Tests.{tests}
use Rattle.edits.specs.Control.{come}
use Rattle.splice.proofs.control.come_of.Goals as goal

pub returns-then-c-eq2 : goal.returns-then-c-eq2
unfolding come
returns-then-c-eq2 c = search tests

pub returns-else-c-eq2 : goal.returns-else-c-eq2
unfolding come
returns-else-c-eq2 c = search tests
