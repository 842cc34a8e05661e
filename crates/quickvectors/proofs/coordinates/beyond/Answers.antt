-- The sum, modulo 2 ^ 32, tells both sides at once.
use Rattle.quickvectors.proofs.CoordinateLaws.{beyond_told}
use Rattle.std.proofs.Common.{rules}
use Rattle.quickvectors.proofs.coordinates.beyond.Goals as goal

pub returns : goal.returns
returns c = search (rules, beyond_told)
