-- The number read is that of the definition.
use Rattle.counted.proofs.counts.is_count.Goals as goal

pub returns : goal.returns
returns c = cc
