-- The invariant: the first separator from the start is the first from i on.
use Rattle.std.proofs.Common.{◌≤◌, ◌-◌, ◌+◌, ◌≡◌, length}
use Rattle.fieldparts.specs.Descriptive.{separator_at}
use Rattle.fieldparts.proofs.descriptive.separator.Given as goal

abbrev pub invariant-loop-i : goal.invariant-loop-i
invariant-loop-i l = (l.i ≤ l.from + (length l.field - l.from)) × (separator_at l.field l.from ≡ separator_at l.field l.i)
