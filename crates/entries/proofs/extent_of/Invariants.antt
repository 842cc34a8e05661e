-- The invariant: all entries are those passed and those from here on, and so are their bytes.
use Rattle.std.proofs.Common.{◌≤◌, ◌-◌, ◌+◌, ◌≡◌, length, drop}
use mathlib.Core.List.{flatten}
use Rattle.entries.specs.Entries.{entries_of}
use Rattle.entries.proofs.extent_of.Given as goal

abbrev pub invariant-loop-sh : goal.invariant-loop-sh
invariant-loop-sh l = (l.at ≤ length l.b) × (l.count ≤ l.at) × (length (entries_of l.sh l.b) ≡ l.count + length (entries_of l.sh (drop l.at l.b)))
    × (length (flatten (entries_of l.sh l.b)) ≡ l.at + length (flatten (entries_of l.sh (drop l.at l.b))))

abbrev pub decreases-loop-sh : goal.decreases-loop-sh
decreases-loop-sh l = length l.b - l.at
