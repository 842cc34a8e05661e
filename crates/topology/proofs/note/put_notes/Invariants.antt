-- The invariant: the notes of the first i items stand behind the words, which are as they were, and of these items so many at the front are clear.
use Rattle.words.specs.Words.{words_in}
use Rattle.topology.specs.Notes.{ClearTo}
use Rattle.topology.proofs.NotesLaws.{Filed}
use Rattle.topology.proofs.note.put_notes.Given as goal

abbrev pub invariant-loop-i : goal.invariant-loop-i
invariant-loop-i l = Filed l.s l.initial.work l.m l.i l.work × ClearTo l.comf l.s (words_in l.initial.work 0 l.m) l.clear
