-- Two parts, one behind the other.
use Rattle.asheld.proofs.WriteLaws.{long_room, long_put, long_end}
use Rattle.std.proofs.Common.{rules}
use Rattle.asheld.proofs.write.put_long.Goals as goal

pub copy-requires : goal.copy-requires
copy-requires c = search (rules, long_room)

pub returns : goal.returns
returns c = (search (rules, long_put), search (rules, long_end))
