-- Two parts, one behind the other.
use Rattle.asheld.proofs.WriteLaws.{base_room, base_put, base_end}
use Rattle.std.proofs.Common.{rules}
use Rattle.asheld.proofs.write.put_base.Goals as goal

pub copy-requires : goal.copy-requires
copy-requires c = search (rules, base_room)

pub returns : goal.returns
returns c = (search (rules, base_put), search (rules, base_end))
