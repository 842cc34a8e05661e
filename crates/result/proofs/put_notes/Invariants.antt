-- The invariant: the first i items are noted, of the modifies j are behind, and so many items at the front are clear.
use Rattle.resultitems.specs.Able.{Rooms}
use Rattle.result.proofs.NotesLaws.{Walked}
use Rattle.result.proofs.ClearLaws.{Clearing}
use Rattle.result.proofs.put_notes.Given as goal

abbrev pub invariant-loop-i : goal.invariant-loop-i
invariant-loop-i l =
    Walked l.cell l.update l.initial.work l.end l.count l.edits l.i l.j l.work
    × Clearing l.comf l.cell l.update l.initial.work l.end l.count l.edits l.i l.j l.clear × Rooms l.join l.table l.room
