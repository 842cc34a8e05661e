use Rattle.octets.proofs.NumberLaws.{reads_join}
use Rattle.octets.proofs.number.get8.Goals as goal

pub returns : goal.returns
returns c = reads_join 4 4 c.get4-low.ensures c.get4-high.ensures
