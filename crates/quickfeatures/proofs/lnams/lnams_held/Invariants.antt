-- The code of all LNAMs is the code of those left.
use Rattle.std.proofs.Common.{◌-◌, length}
use Rattle.quickfeatures.proofs.LnamLaws.{Related}
use Rattle.quickfeatures.proofs.lnams.lnams_held.Given as goal

abbrev pub invariant-loop-shape : goal.invariant-loop-shape
invariant-loop-shape l = Related l.part l.work l.m l.v l.at

abbrev pub decreases-loop-shape : goal.decreases-loop-shape
decreases-loop-shape l = length l.part - l.at
