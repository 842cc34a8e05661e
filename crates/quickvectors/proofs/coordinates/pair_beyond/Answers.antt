-- Neither is beyond.
use Rattle.quickvectors.proofs.CoordinateLaws.{pair_told}
use Rattle.std.proofs.Common.{rules}
use Rattle.quickvectors.proofs.coordinates.pair_beyond.Goals as goal

pub returns : goal.returns
returns c = search (rules, pair_told)
