-- The invariant: what is written and the records that are left are all records.
use Rattle.std.proofs.Common.{◌+◌, ◌≤◌}
use Rattle.merge.specs.Places.{places_from}
use Rattle.resultitems.specs.Able.{AllAble, Rooms}
use Rattle.octets.specs.Area.{Going}
use Rattle.resultitems.specs.Items.{objects_from, objects_in, written_by}
use Rattle.renewal.specs.Same.{Told, AllSame}
use Rattle.renewal.proofs.all.put_items.Given as goal

abbrev pub invariant-loop-i : goal.invariant-loop-i
invariant-loop-i l =
    (l.j ≤ l.edits) × Rooms l.join l.table l.room
    × AllAble l.cell l.update (places_from l.work l.end l.count l.edits l.i l.j) × Told l.same (AllSame l.cell l.update (places_from l.work l.end l.count l.edits l.i l.j))
    × Going l.initial.out l.place (written_by 3 (objects_in l.cell l.update l.work l.end l.count l.edits)) l.out l.next
    (written_by (l.i + 3) (objects_from l.cell l.update l.work l.end l.count l.edits l.i l.j))
