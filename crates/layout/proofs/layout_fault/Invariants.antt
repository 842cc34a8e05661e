-- The invariant: the fault of the record is the fault of the fields from here on, the next field starting where it is due.
use Rattle.std.proofs.Common.{◌-◌, ◌≡◌}
use Rattle.iso8211.specs.Field.{count_at}
use Rattle.iso8211.specs.Premises.{Due}
use Rattle.layout.specs.Layout.{layout_fault, laid_from}
use Rattle.layout.proofs.layout_fault.Given as goal

abbrev pub invariant-loop-j : goal.invariant-loop-j
invariant-loop-j l = (l.count ≡ count_at l.s l.at) × Due l.s l.at l.j l.due
    × (layout_fault l.update l.stage l.marks l.s l.at ≡ laid_from (count_at l.s l.at - l.j) l.update l.stage l.marks l.s l.at l.j l.prev)
