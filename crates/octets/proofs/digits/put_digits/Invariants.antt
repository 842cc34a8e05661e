-- The invariant: the digits from k on are written, and what is left is v without them.
use Rattle.std.proofs.Common.{◌≡◌, ◌+◌, ◌-◌, ◌/◌, ◌^◌}
use Rattle.octets.specs.Digits.{digits_of}
use Rattle.octets.specs.Area.{Wrote}
use Rattle.octets.proofs.digits.put_digits.Given as goal

abbrev pub invariant-loop-k : goal.invariant-loop-k
invariant-loop-k l = (l.left ≡ l.v / 10 ^ (l.w - l.k)) × Wrote l.initial.area (l.at + l.k) (digits_of (l.w - l.k) l.v) l.area (l.at + l.w)
