use Rattle.octets.proofs.NumberLaws.{put_halves, wrote_to}
use Rattle.std.proofs.Common.{arith}
use Rattle.octets.proofs.number.put8.Goals as goal

pub put4-requires : goal.put4-requires
put4-requires c = omega (arith, wrote_to 4 _ c.put4-next.ensures, c.put4-next.auto.area)

pub returns : goal.returns
returns c = put_halves 4 _ c.put4-next.ensures c.put4.ensures
