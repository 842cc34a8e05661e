-- By the tests.
use Rattle.std.proofs.Common.{arith}
use Rattle.std.proofs.lemmas.Bool.Decides.{nat_tests}
use Rattle.names.specs.Neighbours.{lower}
use Rattle.names.proofs.twice.lower_of.Goals as goal

pub returns-then-left-right : goal.returns-then-left-right
unfolding lower
returns-then-left-right c = grind (arith, nat_tests)

pub returns : goal.returns
unfolding lower
returns c = grind (arith, nat_tests)
