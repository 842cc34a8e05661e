-- Two bytes, one behind the other. Assumes nothing.
use Rattle.records.proofs.HeadLaws.{two_put}
use Rattle.octets.proofs.NumberLaws.{wrote_to}
use Rattle.std.proofs.Common.{arith, rules}
use Rattle.records.proofs.head.put_two.Goals as goal

pub put1-requires : goal.put1-requires
put1-requires c = omega (arith, wrote_to 1 _ c.put1-next.ensures, c.put1-next.auto.area)

pub returns : goal.returns
returns c = search (rules, two_put)
