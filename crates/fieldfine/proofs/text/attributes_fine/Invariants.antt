-- The invariant: whole and without fault so far, the labels met in the table.
use Rattle.std.proofs.Common.{◌-◌, ◌≤◌, ◌≡◌, length}
use Rattle.fieldfine.specs.Told.{content_in}
use Rattle.fieldfine.proofs.ListLaws.{Attributing}
use Rattle.fieldfine.proofs.text.attributes_fine.Given as goal

abbrev pub invariant-loop-at : goal.invariant-loop-at
invariant-loop-at l = (l.at ≤ l.stop) × (length l.table ≡ length l.initial.table) × (length l.table ≡ 65536) × Attributing l.update l.high
    (content_in l.d) l.stamp l.initial.table l.table l.at

abbrev pub decreases-loop-at : goal.decreases-loop-at
decreases-loop-at l = l.stop - l.at
