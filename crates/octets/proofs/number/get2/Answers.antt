use Rattle.octets.proofs.NumberLaws.{reads_join}
use Rattle.octets.proofs.number.get2.Goals as goal

pub returns : goal.returns
returns c = reads_join 1 1 c.get1.ensures c.get1-2.ensures
