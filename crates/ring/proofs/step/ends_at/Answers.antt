-- Behind the edges there is no note.
use Rattle.ring.proofs.StepLaws.{ends_past, ends_here}
use Rattle.std.proofs.Common.{rules}
use Rattle.ring.proofs.step.ends_at.Goals as goal

pub returns-then-v-i : goal.returns-then-v-i
returns-then-v-i c = search (rules, ends_past)

pub returns : goal.returns
returns c = search (rules, ends_here)
