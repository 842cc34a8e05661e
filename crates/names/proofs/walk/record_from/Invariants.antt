-- The invariant: record k starts here, and no record before it starts at p.
use Rattle.std.proofs.Common.{ℕ, ◌≤◌, ◌<◌, ◌-◌, ◌≡◌}
use Rattle.iso8211.specs.File.{record_at}
use Rattle.names.proofs.walk.record_from.Given as goal

abbrev pub invariant-loop-at : goal.invariant-loop-at
invariant-loop-at l = (l.k ≤ l.n) × (l.k ≤ l.at) × (l.at ≡ record_at l.s l.k) × ((j : ℕ) → j < l.n → l.p ≡ record_at l.s j → l.k ≤ j)

abbrev pub decreases-loop-at : goal.decreases-loop-at
decreases-loop-at l = l.p - l.at
