use Rattle.std.proofs.Common.{rules}
use Rattle.itemrows.proofs.TakenLaws.{taking_start, taking_on, taking_past, taking_end}
use Rattle.itemrows.proofs.plain.taken.Goals as goal

pub loop-tag-init : goal.loop-tag-init
loop-tag-init c = search (rules, taking_start)

pub returns-then-n-j : goal.returns-then-n-j
returns-then-n-j c = (search (rules, taking_past), search rules)

pub loop-tag-preserved : goal.loop-tag-preserved
loop-tag-preserved c = search (rules, taking_on)

pub returns : goal.returns
returns c = (search (rules, taking_end), search rules)
