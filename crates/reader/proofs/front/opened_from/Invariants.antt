-- The invariant: the records before record k are good.
use Rattle.std.proofs.Common.{◌-◌, length}
use Rattle.reader.specs.Lent.{FramedTo}
use Rattle.reader.proofs.front.opened_from.Given as goal

abbrev pub invariant-loop-at : goal.invariant-loop-at
invariant-loop-at l = FramedTo l.s l.k l.at

abbrev pub decreases-loop-at : goal.decreases-loop-at
decreases-loop-at l = length l.s - l.at
