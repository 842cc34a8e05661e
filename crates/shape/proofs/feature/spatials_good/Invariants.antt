-- The rule of all entries is the rule of those left.
use Rattle.std.proofs.Common.{◌≡◌, length}
use Rattle.entries.specs.Rules.{all_of}
use Rattle.items.specs.Lists.{entries_at}
use Rattle.items.specs.Cursors.{left, CursorIn}
use Rattle.vectorshape.specs.Shape.{spatial_good}
use Rattle.table.specs.Table.{FSPT}
use Rattle.shape.proofs.feature.spatials_good.Given as goal

abbrev pub invariant-loop-from : goal.invariant-loop-from
invariant-loop-from l = CursorIn l.r.file.now l.r.at FSPT l.c × (all_of (spatial_good l.prim) (entries_at l.r.file.now l.r.at FSPT)
    ≡ all_of (spatial_good l.prim) (left l.r.file.now l.r.at FSPT l.c))

abbrev pub decreases-loop-from : goal.decreases-loop-from
decreases-loop-from l = length (left l.r.file.now l.r.at FSPT l.c)
