-- The invariant: all are so exactly where all from here on are.
use Rattle.std.proofs.Common.{◌+◌, ◌-◌, ◌≡◌}
use Rattle.dataset.specs.Dsid.{codes_at}
use Rattle.dataset.proofs.codes_at.Given as goal

abbrev pub invariant-loop-k : goal.invariant-loop-k
invariant-loop-k l = codes_at l.n l.f l.at ≡ codes_at (l.n - l.k) l.f (l.at + l.k)
