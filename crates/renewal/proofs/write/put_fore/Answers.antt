-- The counts, then records 0 to 2.
use Rattle.renewal.proofs.ResultLaws.{fore_room, fore_put}
use Rattle.std.proofs.Common.{rules}
use Rattle.renewal.proofs.write.put_fore.Goals as goal

pub put_front-requires : goal.put_front-requires
put_front-requires c = (search rules, search (rules, fore_room))

pub returns : goal.returns
returns c = search (rules, fore_put)
