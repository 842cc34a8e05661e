use Rattle.octets.proofs.AreaLaws.{wrote_as}
use Rattle.octets.proofs.NumberLaws.{put_halves, wrote_to, bytes_low}
use Rattle.std.proofs.Common.{arith}
use Rattle.octets.proofs.number.put2.Goals as goal

pub put1-requires : goal.put1-requires
put1-requires c = omega (arith, wrote_to 1 _ c.put1-next.ensures, c.put1-next.auto.area)

pub returns : goal.returns
returns c = put_halves 1 _ c.put1-next.ensures (wrote_as _ (bytes_low 1 _) c.put1.ensures)
