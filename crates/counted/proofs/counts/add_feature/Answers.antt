-- Field by field: `one` answers what the definition adds.
use Rattle.counted.specs.Tallies.{with_feature}
use Rattle.counted.proofs.counts.add_feature.Goals as goal

pub returns : goal.returns
unfolding with_feature
returns c = cc
