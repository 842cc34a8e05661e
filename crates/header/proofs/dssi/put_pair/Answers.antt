-- Two numbers of four bytes. Assumes nothing.
use Rattle.header.proofs.PutLaws.{pair_room, pair_put, pair_end}
use Rattle.std.proofs.Common.{rules}
use Rattle.header.proofs.dssi.put_pair.Goals as goal

pub put4-requires : goal.put4-requires
put4-requires c = search (rules, pair_room)

pub returns : goal.returns
returns c = (search (rules, pair_put), search (rules, pair_end))
