-- The walk says whether there is a fault, the names which.
use Rattle.pointer.proofs.PointerLaws.{fspt_wide}
use Rattle.ring.proofs.RingLaws.{area_good_lem, area_missing, area_open}
use Rattle.std.proofs.Common.{rules}
use Rattle.ring.proofs.area_code.Goals as goal

pub returns-then-rings_closed : goal.returns-then-rings_closed
returns-then-rings_closed c = search (rules, area_good_lem)

pub names_code-missing-requires : goal.names_code-missing-requires
names_code-missing-requires c = search (rules, fspt_wide)

pub returns-then-missing-ne0 : goal.returns-then-missing-ne0
returns-then-missing-ne0 c = search (rules, area_missing)

pub returns : goal.returns
returns c = search (rules, area_open)
