-- The invariant: all bytes so far are text; the closing 1E is none.
use Rattle.std.proofs.Common.{◌+◌, ◌-◌, ◌≤◌, ◌≡◌, Bool, true, not, length}
use lib.Dec.{eqb}
use Rattle.fieldfine.specs.Told.{content_in}
use Rattle.fieldfine.specs.Text.{TextRun}
use Rattle.fieldfine.proofs.text.level_run.Given as goal

abbrev pub invariant-loop-i : goal.invariant-loop-i
invariant-loop-i g l = (l.i + 1 ≤ length l.d) × ((high : Bool) → (not (eqb g.row.HIGH 0) ≡ true → high ≡ true) → TextRun high (content_in l.d) l.from l.i)

abbrev pub decreases-loop-i : goal.decreases-loop-i
decreases-loop-i g l = length l.d - l.i
