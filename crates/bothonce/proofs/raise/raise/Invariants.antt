-- The invariant: the words so far stand at both places.
use Rattle.bothonce.proofs.RaiseLaws.{Raising}
use Rattle.bothonce.proofs.raise.raise.Given as goal

abbrev pub invariant-loop-i : goal.invariant-loop-i
invariant-loop-i l = Raising l.initial.work l.n l.i l.work
