-- The ends are the halves of the note at the index of the name.
use Rattle.ring.proofs.StepLaws.{step_missing, step_back, step_forth}
use Rattle.std.proofs.Common.{rules}
use Rattle.ring.proofs.step.step_of.Goals as goal

pub returns-in_err-i : goal.returns-in_err-i
returns-in_err-i c = search (rules, step_missing)

pub returns-then-e-eq2 : goal.returns-then-e-eq2
returns-then-e-eq2 c = search (rules, step_back)

pub returns : goal.returns
returns c = search (rules, step_forth)
