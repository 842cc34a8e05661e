-- Front, then the two numbers with their 1F. Assumes nothing.
use Rattle.header.proofs.PutLaws.{front_room, edition_room, update_room, names_put}
use Rattle.std.proofs.Common.{rules}
use Rattle.header.proofs.dsid.put_names.Goals as goal

pub copy-a-requires : goal.copy-a-requires
copy-a-requires c = search (rules, front_room)

pub put_number-b-requires : goal.put_number-b-requires
put_number-b-requires c = search (rules, edition_room)

pub put_number-requires : goal.put_number-requires
put_number-requires c = search (rules, update_room)

pub returns : goal.returns
returns c = search (rules, names_put)
