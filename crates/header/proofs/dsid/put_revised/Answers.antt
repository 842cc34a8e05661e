-- With the update's UPDN, and its ISDT as both dates. Assumes nothing.
use Rattle.header.proofs.PutLaws.{revised_room, revised_put}
use Rattle.std.proofs.Common.{rules}
use Rattle.header.proofs.dsid.put_revised.Goals as goal

pub put_dated-requires : goal.put_dated-requires
put_dated-requires c = (search rules, search (rules, revised_room))

pub returns : goal.returns
returns c = search (rules, revised_put)
