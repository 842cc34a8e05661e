use Rattle.entries.proofs.WalkLaws.{place_there, place_out, place_on}
use Rattle.std.proofs.Common.{rules}
use Rattle.entries.proofs.place_of.Goals as goal

pub returns-then-n-eq0 : goal.returns-then-n-eq0
returns-then-n-eq0 c = (search (rules, place_out), search rules)

pub loop-preserved : goal.loop-preserved
loop-preserved c = (search rules, search (rules, place_on))

pub returns-after-loop : goal.returns-after-loop
returns-after-loop c = (search (rules, place_there), search rules)
