-- The invariant: as long as none was beyond, the rule of all entries is the rule of those left.
use Rattle.quickvectors.proofs.CoordinateLaws.{Passed}
use Rattle.quickvectors.proofs.coordinates.pairs_within.Given as goal

abbrev pub invariant-loop-k : goal.invariant-loop-k
invariant-loop-k l = Passed l.comf l.size l.part l.k l.out
