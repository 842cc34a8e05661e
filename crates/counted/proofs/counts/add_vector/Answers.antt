-- Field by field: `one` answers what the definition adds.
use Rattle.counted.specs.Tallies.{with_vector}
use Rattle.counted.proofs.counts.add_vector.Goals as goal

pub returns : goal.returns
unfolding with_vector
returns c = cc
