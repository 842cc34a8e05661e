-- The invariant: of the bytes, those of the rest are still to be written; the numbers of its labels are as they were, those of the labels
-- passed are marked.
use Rattle.std.proofs.Common.{◌≤◌, ◌-◌, ◌≡◌, length, drop}
use mathlib.Core.List.{flatten}
use Rattle.octets.specs.Area.{Going}
use Rattle.entries.specs.Entries.{entries_of}
use Rattle.attributes.specs.Attributes.{attribute, label_of, is_removal}
use Rattle.edits.specs.OnePass.{worked}
use Rattle.labelled.specs.Table.{used}
use Rattle.labelled.proofs.TableLaws.{Passing}
use Rattle.labelled.proofs.labels.put_worked.Given as goal

abbrev pub invariant-loop-n : goal.invariant-loop-n
invariant-loop-n l =
    (l.i ≤ length l.held) × (length l.table ≡ length l.initial.table) × (length l.out ≡ length l.initial.out) × Passing used l.held l.initial.table l.table l.i
    × Going l.initial.out l.at (flatten (worked label_of is_removal (entries_of attribute l.held) (entries_of attribute l.brought))) l.out l.next
    (flatten (worked label_of is_removal (entries_of attribute (drop l.i l.held)) (entries_of attribute l.brought)))

abbrev pub decreases-loop-n : goal.decreases-loop-n
decreases-loop-n l = length l.held - l.i
