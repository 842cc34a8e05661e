-- By the kind of file, one law each.
use Rattle.std.proofs.Common.{rules}
use Rattle.values.proofs.RuleLaws.{ruin_update, ruin_cell}
use Rattle.values.proofs.rule.ruin_good.Goals as goal

pub returns-then-update : goal.returns-then-update
returns-then-update c = search (rules, ruin_update)

pub returns : goal.returns
returns c = search (rules, ruin_cell)
