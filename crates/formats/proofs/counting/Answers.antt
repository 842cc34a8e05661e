-- Each return is one test of the definition.
use Rattle.octets.proofs.Tests.{tests}
use Rattle.formats.specs.Formats.{counts}
use Rattle.formats.proofs.counting.Goals as goal

pub returns-then-d-ge1 : goal.returns-then-d-ge1
unfolding counts
returns-then-d-ge1 c = search tests

pub returns-else-d-ge1 : goal.returns-else-d-ge1
unfolding counts
returns-else-d-ge1 c = search tests
