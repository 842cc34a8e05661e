-- The invariant: the number from the start is the number from here, with what has been led.
use Rattle.std.proofs.Common.{◌≤◌, ◌<◌, ◌-◌, ◌+◌, ◌^◌, ◌≡◌, length}
use Rattle.formats.specs.Formats.{short_from, short_at}
use Rattle.formats.proofs.short.Given as goal

abbrev pub invariant-loop-n : goal.invariant-loop-n
invariant-loop-n l = (l.at + l.n ≤ length l.s) × (l.led < 10 ^ l.n) × (short_at l.s l.at ≡ short_from (3 - l.n) l.s (l.at + l.n) l.led)
