-- The invariant: the sum so far and the size of the records that are left is the size of all; so with the longest. Where all so far
-- are the held form's, all are if those that are left are.
use Rattle.std.proofs.Common.{◌≤◌}
use Rattle.merge.specs.Places.{places_from, places_of}
use Rattle.resultitems.specs.Able.{AllAble, Rooms}
use Rattle.resultitems.specs.Items.{objects_from, objects_in, Counted}
use Rattle.renewal.proofs.SameLaws.{SameTo}
use Rattle.renewal.proofs.all.measure.Given as goal

abbrev pub invariant-loop-i : goal.invariant-loop-i
invariant-loop-i l =
    (l.count ≤ 65536) × (l.j ≤ l.edits) × Rooms l.join l.table l.room
    × AllAble l.cell l.update (places_from l.work l.end l.count l.edits l.i l.j)
    × Counted (objects_in l.cell l.update l.work l.end l.count l.edits) l.i (objects_from l.cell l.update l.work l.end l.count l.edits l.i l.j) l.sum l.most
    × SameTo l.cell l.update (places_of l.work l.end l.count l.edits) (places_from l.work l.end l.count l.edits l.i l.j) l.same
