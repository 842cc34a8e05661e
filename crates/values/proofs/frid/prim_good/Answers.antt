-- Each way out by the tests that led there.
use Rattle.octets.proofs.Tests.{tests}
use Rattle.values.specs.Frid.{prim_good}
use Rattle.values.proofs.frid.prim_good.Goals as goal

pub returns-then-prim-eq1 : goal.returns-then-prim-eq1
unfolding prim_good
returns-then-prim-eq1 c = search tests

pub returns-then-prim-eq2 : goal.returns-then-prim-eq2
unfolding prim_good
returns-then-prim-eq2 c = search tests

pub returns-then-prim-eq3 : goal.returns-then-prim-eq3
unfolding prim_good
returns-then-prim-eq3 c = search tests

pub returns : goal.returns
unfolding prim_good
returns c = search tests
