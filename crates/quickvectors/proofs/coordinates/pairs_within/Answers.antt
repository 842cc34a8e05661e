use Rattle.std.proofs.Common.{rules}
use Rattle.quickvectors.proofs.CoordinateLaws.{passed_start, passed_on, passed_end, entry_long}
use Rattle.quickvectors.proofs.coordinates.pairs_within.Goals as goal

pub loop-k-init : goal.loop-k-init
loop-k-init c = search (rules, passed_start)

pub pair_beyond-out-requires : goal.pair_beyond-out-requires
pair_beyond-out-requires c = (search (rules, entry_long), search rules)

pub loop-k-preserved : goal.loop-k-preserved
loop-k-preserved c = search (rules, passed_on)

pub returns : goal.returns
returns c = search (rules, passed_end)
