-- The invariant: the place is as far from here as the entries that are left to pass.
use Rattle.std.proofs.Common.{◌≤◌, ◌+◌, ◌-◌, ◌≡◌, length, drop}
use Rattle.entries.specs.Premises.{place}
use Rattle.entries.proofs.place_of.Given as goal

abbrev pub invariant-loop : goal.invariant-loop
invariant-loop l = (l.at ≤ length l.b) × (place l.sh l.k l.b ≡ l.at + place l.sh (l.k - l.counter) (drop l.at l.b))
