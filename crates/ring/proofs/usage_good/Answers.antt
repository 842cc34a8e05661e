-- A way for each kind of ring.
use Rattle.ring.proofs.StepLaws.{usage_within, usage_one, usage_three}
use Rattle.std.proofs.Common.{rules}
use Rattle.ring.proofs.usage_good.Goals as goal

pub returns-then-not-exterior : goal.returns-then-not-exterior
returns-then-not-exterior c = search (rules, usage_within)

pub returns-then-usage-eq1 : goal.returns-then-usage-eq1
returns-then-usage-eq1 c = search (rules, usage_one)

pub returns : goal.returns
returns c = search (rules, usage_three)
