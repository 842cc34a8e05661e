-- Each way out by the tests that led there.
use Rattle.octets.proofs.Tests.{tests}
use Rattle.values.specs.Rule.{within}
use Rattle.values.proofs.rule.within.Goals as goal

pub returns-then-v-low : goal.returns-then-v-low
unfolding within
returns-then-v-low c = search tests

pub returns : goal.returns
unfolding within
returns c = search tests
