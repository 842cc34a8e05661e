use Rattle.octets.proofs.NumberLaws.{put_halves, wrote_to}
use Rattle.std.proofs.Common.{arith}
use Rattle.octets.proofs.number.put4.Goals as goal

pub put2-requires : goal.put2-requires
put2-requires c = omega (arith, wrote_to 2 _ c.put2-next.ensures, c.put2-next.auto.area)

pub returns : goal.returns
returns c = put_halves 2 _ c.put2-next.ensures c.put2.ensures
