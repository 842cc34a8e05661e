use Rattle.octets.proofs.Tests.{tests}
use Rattle.labelled.specs.Table.{used}
use Rattle.labelled.proofs.labels.used_of.Goals as goal

pub returns-then-p-eq0 : goal.returns-then-p-eq0
unfolding used
returns-then-p-eq0 c = search tests

pub returns : goal.returns
unfolding used
returns c = search tests
