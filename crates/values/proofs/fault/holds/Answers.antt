-- By the rule that holds or not.
use Rattle.std.proofs.Common.{rules}
use Rattle.values.specs.Fault.{fault_at, told}
use Rattle.values.proofs.fault.holds.Goals as goal

pub returns-then-rule : goal.returns-then-rule
unfolding fault_at told
returns-then-rule c = search rules

pub returns : goal.returns
unfolding fault_at told
returns c = search rules
