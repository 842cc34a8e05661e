-- The invariant: the fault from the start is the fault from here.
use Rattle.std.proofs.Common.{◌≤◌, ◌-◌, length}
use Rattle.attributes.proofs.FfptLaws.{Walked}
use Rattle.attributes.proofs.ffpt_fault.Given as goal

abbrev pub invariant-loop-at : goal.invariant-loop-at
invariant-loop-at l = (l.at ≤ length l.c) × Walked l.c l.at

abbrev pub decreases-loop-at : goal.decreases-loop-at
decreases-loop-at l = length l.c - l.at
