-- Each arm is one of the definition's tests.
use Rattle.std.proofs.Common.{arith}
use Rattle.std.proofs.lemmas.Bool.Decides.{nat_tests}
use Rattle.chart.specs.Read.{next_stage}
use Rattle.chart.proofs.read.next_stage.Goals as goal

pub returns-in-0 : goal.returns-in-0
unfolding next_stage
returns-in-0 c = grind (arith, nat_tests)

pub returns-in-0-2 : goal.returns-in-0-2
unfolding next_stage
returns-in-0-2 c = grind (arith, nat_tests)

pub returns-in-1 : goal.returns-in-1
unfolding next_stage
returns-in-1 c = grind (arith, nat_tests)

pub returns-in_default : goal.returns-in_default
unfolding next_stage
returns-in_default c = grind (arith, nat_tests)

pub returns-in_default-2 : goal.returns-in_default-2
unfolding next_stage
returns-in_default-2 c = grind (arith, nat_tests)
