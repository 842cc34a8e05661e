-- The invariant: the number of a label is the table's, unless the rest of the list has the label.
use Rattle.std.proofs.Common.{◌≤◌, ◌-◌, ◌≡◌, length}
use Rattle.labelled.proofs.TableLaws.{Indexing}
use Rattle.labelled.proofs.labels.index.Given as goal

abbrev pub invariant-loop-n : goal.invariant-loop-n
invariant-loop-n l = (l.at ≤ length l.brought) × (length l.table ≡ length l.initial.table) × Indexing l.brought l.table l.at

abbrev pub decreases-loop-n : goal.decreases-loop-n
decreases-loop-n l = length l.brought - l.at
