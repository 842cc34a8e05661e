-- The invariant: i words are marked, and all others are as they were.
use Rattle.merge.proofs.MarksLaws.{Marking}
use Rattle.merge.proofs.marks.mark_deletes.Given as goal

abbrev pub invariant-loop-i : goal.invariant-loop-i
invariant-loop-i l = Marking l.s l.initial.work l.from l.m l.i l.work
