-- The invariant: the text ends where it ends from here on.
use Rattle.std.proofs.Common.{◌≤◌, max, ◌≡◌, length}
use Rattle.headvalues.specs.Text.{text_end}
use Rattle.headvalues.proofs.text.text_end.Given as goal

abbrev pub invariant-loop-i : goal.invariant-loop-i
invariant-loop-i l = (l.i ≤ max l.from (length l.s)) × (text_end l.s l.from ≡ text_end l.s l.i)
