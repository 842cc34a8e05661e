use Rattle.std.proofs.Common.{rules}
use Rattle.joining.proofs.PartLaws.{total_start, total_on, total_end, total_few}
use Rattle.joining.proofs.lists.total.Goals as goal

pub loop-j-init : goal.loop-j-init
loop-j-init c = (search rules, search (rules, total_start))

pub loop-j-preserved : goal.loop-j-preserved
loop-j-preserved c = (search (rules, total_few), search (rules, total_on))

pub returns : goal.returns
returns c = (search (rules, total_end), search rules)
