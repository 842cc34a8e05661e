-- The test on TOPI is the test on the byte.
use Rattle.ring.proofs.StepLaws.{node_here, node_other}
use Rattle.std.proofs.Common.{rules}
use Rattle.ring.proofs.ends.node_step.Goals as goal

pub returns-then-wide-topi : goal.returns-then-wide-topi
returns-then-wide-topi c = (search (rules, node_here), search rules)

pub returns : goal.returns
returns c = (search (rules, node_other), search rules)
