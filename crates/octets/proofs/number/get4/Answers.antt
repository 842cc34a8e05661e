use Rattle.octets.proofs.NumberLaws.{reads_join}
use Rattle.octets.proofs.number.get4.Goals as goal

pub returns : goal.returns
returns c = reads_join 2 2 c.get2.ensures c.get2-2.ensures
