-- The invariant: framing, layout and values of the record, each from the row at i on as from the start.
use Rattle.std.proofs.Common.{◌+◌, ◌-◌, ◌≤◌, ◌≡◌, length}
use Rattle.recordfine.specs.Walk.{Passed}
use Rattle.recordfine.proofs.fields_fine.Given as goal

abbrev pub invariant-loop-i : goal.invariant-loop-i
invariant-loop-i l = (l.due ≤ l.size) × (length l.table ≡ 65536)
    × Passed l.update l.stage l.marks l.aall l.nall l.s l.at (4 + l.l + l.p) l.initial.table l.table l.i l.prev l.stamp l.due

abbrev pub decreases-loop-i : goal.decreases-loop-i
decreases-loop-i l = l.stop - l.i
