-- The invariant: whatever labels the list had met, the table has those and the labels passed, and the fault from the start is the
-- fault from here.
use Rattle.std.proofs.Common.{◌≤◌, ◌-◌, ◌≡◌, length}
use Rattle.attributes.proofs.AttributesLaws.{Walked}
use Rattle.attributes.proofs.attributes_fault.Given as goal

abbrev pub invariant-loop-update : goal.invariant-loop-update
invariant-loop-update l = (l.at ≤ length l.c) × (length l.table ≡ length l.initial.table) × (length l.table ≡ 65536) × Walked l.update l.high l.c l.stamp l.initial.table l.table l.at

abbrev pub decreases-loop-update : goal.decreases-loop-update
decreases-loop-update l = length l.c - l.at
