-- The invariant: the answer from the start is the answer from field j on, with the labels met in the table.
use Rattle.std.proofs.Common.{◌≡◌, length}
use Rattle.iso8211.specs.Premises.{Due}
use Rattle.fieldvalue.proofs.ValueLaws.{Walked}
use Rattle.fieldvalue.proofs.value.value_fault.Given as goal

abbrev pub invariant-loop-j : goal.invariant-loop-j
invariant-loop-j l = (length l.table ≡ 65536)
    × Walked l.update l.aall l.nall l.s l.at l.initial.table l.table l.j l.prev l.stamp × Due l.s l.at l.j l.due
