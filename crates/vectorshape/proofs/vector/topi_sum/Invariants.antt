-- The sum from here is the sum from the start, and no more than 255 for each of two entries.
use Rattle.std.proofs.Common.{◌≡◌, ◌+◌, ◌*◌, ◌≤◌, length}
use Rattle.entries.specs.Rules.{through}
use Rattle.items.specs.Lists.{entries_at}
use Rattle.items.specs.Cursors.{left, CursorIn}
use Rattle.vectorshape.specs.Shape.{add_topi}
use Rattle.table.specs.Table.{VRPT}
use Rattle.vectorshape.proofs.vector.topi_sum.Given as goal

abbrev pub invariant-loop-from : goal.invariant-loop-from
invariant-loop-from l = CursorIn l.r.file.now l.r.at VRPT l.c × (through add_topi 0 (entries_at l.r.file.now l.r.at VRPT)
    ≡ through add_topi l.sum (left l.r.file.now l.r.at VRPT l.c))
    × (l.sum + 255 * length (left l.r.file.now l.r.at VRPT l.c) ≤ 510)

abbrev pub decreases-loop-from : goal.decreases-loop-from
decreases-loop-from l = length (left l.r.file.now l.r.at VRPT l.c)
