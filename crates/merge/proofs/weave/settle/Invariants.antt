-- The invariant: i modifies stand at the end as they do at the end of the first half.
use Rattle.merge.proofs.WeaveLaws.{Settling}
use Rattle.merge.proofs.weave.settle.Given as goal

abbrev pub invariant-loop-i : goal.invariant-loop-i
invariant-loop-i l = Settling l.initial.work l.h l.i l.work
