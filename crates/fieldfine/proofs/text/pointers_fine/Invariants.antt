-- The invariant: whole and without fault so far.
use Rattle.std.proofs.Common.{◌-◌, ◌≤◌}
use Rattle.fieldfine.specs.Told.{content_in}
use Rattle.fieldfine.proofs.ListLaws.{Pointing}
use Rattle.fieldfine.proofs.text.pointers_fine.Given as goal

abbrev pub invariant-loop-at : goal.invariant-loop-at
invariant-loop-at l = (l.at ≤ l.stop) × Pointing (content_in l.d) l.at

abbrev pub decreases-loop-at : goal.decreases-loop-at
decreases-loop-at l = l.stop - l.at
