use Rattle.std.proofs.Common.{rules}
use Rattle.octets.proofs.Tests.{tests}
use Rattle.edits.specs.Control.{gone}
use Rattle.splice.proofs.control.gone_of.Goals as goal

pub returns-then-c-eq1 : goal.returns-then-c-eq1
unfolding gone
returns-then-c-eq1 c = (search tests, search rules)

pub returns-else-c-eq1 : goal.returns-else-c-eq1
unfolding gone
returns-else-c-eq1 c = (search tests, search rules)
