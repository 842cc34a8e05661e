-- The pair is the one entry of its lists.
use Rattle.quickvectors.proofs.VectorLaws.{pair_long, told_pair}
use Rattle.std.proofs.Common.{rules}
use Rattle.quickvectors.proofs.pair_lying.Goals as goal

pub pair_beyond-requires : goal.pair_beyond-requires
pair_beyond-requires c = (search (rules, pair_long), search rules)

pub returns : goal.returns
returns c = search (rules, told_pair)
