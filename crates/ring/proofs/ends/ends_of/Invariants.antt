-- Each of the two nodes from here is that from the start.
use Rattle.std.proofs.Common.{◌<◌, ◌≡◌, length}
use Rattle.entries.specs.Rules.{through}
use Rattle.items.specs.Lists.{entries_at}
use Rattle.items.specs.Cursors.{left, CursorIn}
use Rattle.table.specs.Table.{VRPT}
use Rattle.ring.specs.Ring.{node_step}
use Rattle.ring.proofs.ends.ends_of.Given as goal

abbrev pub invariant-loop-from : goal.invariant-loop-from
invariant-loop-from l = CursorIn l.r.file.now l.r.at VRPT l.c × (through (node_step 1) 0 (entries_at l.r.file.now l.r.at VRPT)
    ≡ through (node_step 1) l.first (left l.r.file.now l.r.at VRPT l.c))
    × (through (node_step 2) 0 (entries_at l.r.file.now l.r.at VRPT) ≡ through (node_step 2) l.last (left l.r.file.now l.r.at VRPT l.c)) × (l.first < 4294967296)
    × (l.last < 4294967296)

abbrev pub decreases-loop-from : goal.decreases-loop-from
decreases-loop-from l = length (left l.r.file.now l.r.at VRPT l.c)
