-- With its own UPDN and its own dates. Assumes nothing.
use Rattle.header.proofs.PutLaws.{dsid_room, dsid_put}
use Rattle.std.proofs.Common.{rules}
use Rattle.header.proofs.dsid.put_dsid.Goals as goal

pub put_dated-requires : goal.put_dated-requires
put_dated-requires c = (search rules, search (rules, dsid_room))

pub returns : goal.returns
returns c = search (rules, dsid_put)
