-- The verdict from here is the verdict from the start, in a ring and between two; the edges left grow fewer.
use Rattle.std.proofs.Common.{◌-◌, ◌≤◌, false}
use Rattle.quickfeatures.proofs.TrodLaws.{Followed}
use Rattle.quickfeatures.proofs.rings.rings_quick.Given as goal

abbrev pub invariant-loop-t : goal.invariant-loop-t
invariant-loop-t l =
    Followed l.s l.from l.to l.work l.m l.v l.exterior l.begun l.home l.due l.i × (l.initial.i ≤ l.i)

abbrev pub decreases-loop-t : goal.decreases-loop-t
decreases-loop-t l = l.to - l.i

abbrev pub invariant-loop-i : goal.invariant-loop-i
invariant-loop-i l = Followed l.s l.from l.to l.work l.m l.v l.exterior false 0 0 l.i

abbrev pub decreases-loop-i : goal.decreases-loop-i
decreases-loop-i l = l.to - l.i
