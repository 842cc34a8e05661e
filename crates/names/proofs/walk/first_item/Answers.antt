-- By the one test.
use Rattle.names.specs.Names.{first_item}
use Rattle.octets.proofs.Tests.{tests}
use Rattle.names.proofs.walk.first_item.Goals as goal

pub returns-then-update : goal.returns-then-update
unfolding first_item
returns-then-update c = search tests

pub returns : goal.returns
unfolding first_item
returns c = search tests
