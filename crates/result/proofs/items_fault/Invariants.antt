-- The invariant: the refusal from item i on, of the modifies j being behind, is that from the first.
use Rattle.topology.specs.Notes.{noted_code}
use Rattle.resultitems.specs.Able.{Rooms}
use Rattle.result.specs.Cleared.{JudgedFrom}
use Rattle.result.proofs.items_fault.Given as goal

abbrev pub invariant-loop-i : goal.invariant-loop-i
invariant-loop-i l = JudgedFrom (noted_code l.comf l.work l.count l.v) l.cell l.update l.work l.end l.count l.edits l.i l.j × Rooms l.join l.table l.room
