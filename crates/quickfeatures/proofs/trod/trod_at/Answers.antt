-- The FSPT at i, if there is room for one.
use Rattle.quickfeatures.proofs.TrodLaws.{at_astray, at_told, at_room, at_long}
use Rattle.std.proofs.Common.{rules}
use Rattle.quickfeatures.proofs.trod.trod_at.Goals as goal

pub returns-then-to-i-lt-FSPT : goal.returns-then-to-i-lt-FSPT
returns-then-to-i-lt-FSPT c = search (rules, at_astray)

pub slice_bounds-step_near-end : goal.slice_bounds-step_near-end
slice_bounds-step_near-end c = search (rules, at_room)

pub step_near-requires : goal.step_near-requires
step_near-requires c = (search (rules, at_long), search rules)

pub returns : goal.returns
returns c = search (rules, at_told)
