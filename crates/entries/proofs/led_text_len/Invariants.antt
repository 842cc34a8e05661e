-- The invariant: the text's length from the start is its length from here, with the bytes passed.
use Rattle.std.proofs.Common.{◌≤◌, ◌-◌, ◌≡◌, length, drop}
use Rattle.entries.specs.Entries.{text_len}
use Rattle.entries.proofs.led_text_len.Given as goal

abbrev pub invariant-loop-i : goal.invariant-loop-i
invariant-loop-i l = (l.at ≤ l.i) × (l.i ≤ length l.b) × (text_len l.unit (drop l.from l.b) (l.from - l.at) ≡ text_len l.unit (drop l.i l.b) (l.i - l.at))

abbrev pub decreases-loop-i : goal.decreases-loop-i
decreases-loop-i l = length l.b - l.i
