use Rattle.quickfeatures.proofs.LnamLaws.{lnams_no, related_start, related_end, related_on, lnam_long}
use Rattle.std.proofs.Common.{rules}
use Rattle.quickfeatures.proofs.lnams.lnams_held.Goals as goal

pub loop-shape-init : goal.loop-shape-init
loop-shape-init c = search (rules, related_start)

pub returns-then-n-eq0 : goal.returns-then-n-eq0
returns-then-n-eq0 c = search (rules, related_end)

pub lnam_held-requires : goal.lnam_held-requires
lnam_held-requires c = (search (rules, lnam_long), search rules, search rules)

pub returns-then-not-lnam_held : goal.returns-then-not-lnam_held
returns-then-not-lnam_held c = search (rules, lnams_no)

pub loop-shape-preserved : goal.loop-shape-preserved
loop-shape-preserved c = search (rules, related_on)
