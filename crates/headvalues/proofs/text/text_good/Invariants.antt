-- The invariant: all is text exactly where all from here on is.
use Rattle.std.proofs.Common.{◌≡◌, drop}
use Rattle.headvalues.specs.Text.{text_good}
use Rattle.headvalues.proofs.text.text_good.Given as goal

abbrev pub invariant-loop-b : goal.invariant-loop-b
invariant-loop-b l = text_good l.high l.s ≡ text_good l.high (drop l.b-index l.s)
