use Rattle.std.proofs.Common.{arith}
use Rattle.std.proofs.lemmas.Bool.Decides.{nat_tests}
use Rattle.vectorshape.specs.Shape.{end_good}
use Rattle.vectorshape.proofs.vector.end_good.Goals as goal

pub returns-then-contains : goal.returns-then-contains
unfolding end_good
returns-then-contains c = grind (arith, nat_tests)

pub returns-else-contains : goal.returns-else-contains
unfolding end_good
returns-else-contains c = grind (arith, nat_tests)
