-- Each return is one of the two tests.
use Rattle.octets.proofs.Tests.{tests}
use Rattle.fieldfine.specs.Told.{groups_good}
use Rattle.fieldfine.proofs.single.groups_fine.Goals as goal

pub returns-then-n-lt1 : goal.returns-then-n-lt1
unfolding groups_good
returns-then-n-lt1 c = search tests

pub returns : goal.returns
unfolding groups_good
returns c = search tests
