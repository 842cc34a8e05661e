use Rattle.octets.proofs.NumberLaws.{reads_one}
use Rattle.octets.proofs.number.get1.Goals as goal

pub returns : goal.returns
returns c = reads_one c.wide.ensures.0 c.wide.ensures.1
