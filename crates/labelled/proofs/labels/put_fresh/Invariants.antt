-- The invariant: of the new attributes, those of the rest are still to be written, and all removals have found their labels if those so far
-- and those of the rest have; the numbers of the rest's labels are as they were, those of the labels passed are 0.
use Rattle.std.proofs.Common.{◌≤◌, ◌-◌, ◌&&◌, ◌≡◌, length, drop}
use mathlib.Core.List.{flatten}
use Rattle.octets.specs.Area.{Going}
use Rattle.entries.specs.Entries.{entries_of}
use Rattle.attributes.specs.Attributes.{attribute}
use Rattle.labelled.specs.Table.{cleared, new_by, found_by}
use Rattle.labelled.proofs.TableLaws.{Passing}
use Rattle.labelled.proofs.labels.put_fresh.Given as goal

abbrev pub invariant-loop-n : goal.invariant-loop-n
invariant-loop-n l =
    (l.i ≤ length l.brought) × (length l.table ≡ length l.initial.table) × (length l.out ≡ length l.initial.out) × Passing cleared l.brought l.initial.table l.table l.i
    × Going l.initial.out l.at (flatten (new_by l.initial.table (entries_of attribute l.brought))) l.out l.next
    (flatten (new_by l.initial.table (entries_of attribute (drop l.i l.brought))))
    × (found_by l.initial.table (entries_of attribute l.brought) ≡ (l.found && found_by l.initial.table (entries_of attribute (drop l.i l.brought))))

abbrev pub decreases-loop-n : goal.decreases-loop-n
decreases-loop-n l = length l.brought - l.i
