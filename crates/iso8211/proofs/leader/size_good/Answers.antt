-- Each return is one of the definition's tests.
use Rattle.octets.proofs.Tests.{tests}
use Rattle.iso8211.specs.Leader.{size_good}
use Rattle.iso8211.proofs.leader.size_good.Goals as goal

pub returns-then-s-i-lt49 : goal.returns-then-s-i-lt49
unfolding size_good
returns-then-s-i-lt49 c = search tests

pub returns : goal.returns
unfolding size_good
returns c = search tests
