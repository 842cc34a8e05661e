use Rattle.std.proofs.Common.{rules, arith}
use Rattle.std.proofs.lemmas.Bool.Decides.{nat_tests}
use Rattle.splice.specs.Given.{option_of}
use Rattle.amend.specs.Controls.{chosen}
use Rattle.amend.proofs.control.control_for.Goals as goal

pub returns-then-k-eq-FFPT : goal.returns-then-k-eq-FFPT
unfolding chosen
returns-then-k-eq-FFPT c = (grind (arith, nat_tests), search rules)

pub returns-then-k-coordinates : goal.returns-then-k-coordinates
unfolding chosen
returns-then-k-coordinates c = (grind (arith, nat_tests), search rules)

pub returns-else-k-coordinates : goal.returns-else-k-coordinates
unfolding chosen option_of
returns-else-k-coordinates c = (grind (arith, nat_tests), tt)
