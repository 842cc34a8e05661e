use Rattle.entries.proofs.WalkLaws.{extent_done, count_on, end_on}
use Rattle.std.proofs.Common.{rules}
use Rattle.entries.proofs.extent_of.Goals as goal

pub returns-then-n-eq0 : goal.returns-then-n-eq0
returns-then-n-eq0 c = search (rules, extent_done)

pub loop-sh-preserved : goal.loop-sh-preserved
loop-sh-preserved c = (search rules, search rules, search (rules, count_on), search (rules, end_on))
