-- The leader as far as the digit sizes, and all behind that.
use Rattle.asheld.proofs.WriteLaws.{whole_room, whole_put}
use Rattle.std.proofs.Common.{rules}
use Rattle.asheld.proofs.write.put_whole.Goals as goal

pub copy-requires : goal.copy-requires
copy-requires c = search (rules, whole_room)

pub returns : goal.returns
returns c = search (rules, whole_put)
