-- The invariant: of src, what stands from i on is still to be written.
use Rattle.std.proofs.Common.{◌+◌, drop}
use Rattle.octets.specs.Area.{Going}
use Rattle.octets.proofs.area.copy.Given as goal

abbrev pub invariant-loop-i : goal.invariant-loop-i
invariant-loop-i l = Going l.initial.area l.at l.src l.area (l.at + l.i) (drop l.i l.src)
