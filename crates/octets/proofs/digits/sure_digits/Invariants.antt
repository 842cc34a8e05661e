-- The invariant: the number from the start is the number from here, with what has been led.
use Rattle.std.proofs.Common.{◌≡◌, ◌+◌, ◌-◌, ◌^◌, ◌<◌}
use Rattle.octets.specs.Digits.{digits_from, number_at}
use Rattle.octets.proofs.digits.sure_digits.Given as goal

abbrev pub invariant-loop-b : goal.invariant-loop-b
invariant-loop-b l = (l.led < 10 ^ l.b-index) × (number_at l.s l.at l.n ≡ digits_from (l.n - l.b-index) l.s (l.at + l.b-index) l.led)
