-- The fewest digits, then 1F. Assumes nothing.
use Rattle.header.proofs.PutLaws.{number_room, number_put}
use Rattle.std.proofs.Common.{rules}
use Rattle.header.proofs.dsid.put_number.Goals as goal

pub put1-requires : goal.put1-requires
put1-requires c = search (rules, number_room)

pub returns : goal.returns
returns c = search (rules, number_put)
