-- The node of each end, behind both pointers.
use Rattle.ring.proofs.StepLaws.{ends_two}
use Rattle.std.proofs.Common.{rules}
use Rattle.ring.proofs.ends.ends_between.Goals as goal

pub returns : goal.returns
returns c = search (rules, ends_two)
