-- The invariant: whatever the number of records, the answer from the start is the answer from here, and tally and area hold the items so far.
use Rattle.std.proofs.Common.{◌-◌, ◌≡◌, length}
use Rattle.readonce.proofs.PassLaws.{Passing}
use Rattle.readonce.proofs.pass.records_once.Given as goal

abbrev pub invariant-loop-at : goal.invariant-loop-at
invariant-loop-at l = (length l.table ≡ 65536) × (length l.area ≡ length l.initial.area)
    × Passing l.update l.marks l.s l.initial.area l.table l.area l.tally l.k l.at l.st

abbrev pub decreases-loop-at : goal.decreases-loop-at
decreases-loop-at l = length l.s - l.at
