-- The invariant: what is woven so far, and the result of the words that are left, are the result.
use Rattle.std.proofs.Common.{◌+◌, ◌-◌}
use Rattle.merge.proofs.WeaveLaws.{Weaving}
use Rattle.merge.proofs.weave.weave.Given as goal

abbrev pub invariant-loop-i : goal.invariant-loop-i
invariant-loop-i l = Weaving l.initial.work l.h l.n l.m l.i l.j l.count l.edits l.work

abbrev pub decreases-loop-i : goal.decreases-loop-i
decreases-loop-i l = l.h - (l.i + l.j)
