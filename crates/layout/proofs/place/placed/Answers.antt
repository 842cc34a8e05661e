-- Each way out is one case of the definition.
use Rattle.octets.proofs.Tests.{tests}
use Rattle.layout.specs.Layout.{placed}
use Rattle.layout.proofs.place.placed.Goals as goal

pub returns-then-prev-eq-START : goal.returns-then-prev-eq-START
unfolding placed
returns-then-prev-eq-START c = search tests

pub returns-then-prev-eq-FIRST : goal.returns-then-prev-eq-FIRST
unfolding placed
returns-then-prev-eq-FIRST c = search tests

pub returns : goal.returns
unfolding placed
returns c = search tests
