use Rattle.octets.proofs.NumberLaws.{wrote_byte}
use Rattle.octets.proofs.number.put1.Goals as goal

pub returns : goal.returns
returns c = wrote_byte _ _ _ c.ranges.b.fits c.requires
