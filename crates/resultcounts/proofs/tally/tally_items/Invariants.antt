-- The invariant: the counts of all are those so far with those of the objects left.
use Rattle.std.proofs.Common.{◌≤◌, ◌≡◌}
use Rattle.held.specs.Held.{tally_in}
use Rattle.reissue.specs.Tally.{with_objects}
use Rattle.merge.specs.Places.{places_from}
use Rattle.resultitems.specs.Able.{AllAble}
use Rattle.resultitems.specs.Items.{objects_from, objects_in}
use Rattle.resultcounts.proofs.tally.tally_items.Given as goal

abbrev pub invariant-loop-i : goal.invariant-loop-i
invariant-loop-i l =
    (l.j ≤ l.edits) × AllAble l.cell l.update (places_from l.work l.end l.count l.edits l.i l.j)
    × (tally_in (objects_in l.cell l.update l.work l.end l.count l.edits) ≡ with_objects l.t (objects_from l.cell l.update l.work l.end l.count l.edits l.i l.j))
