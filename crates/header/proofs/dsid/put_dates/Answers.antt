-- Three parts, one behind the other. Assumes nothing.
use Rattle.header.proofs.PutLaws.{applied_room, issued_room, rest_room, dates_put}
use Rattle.std.proofs.Common.{rules}
use Rattle.header.proofs.dsid.put_dates.Goals as goal

pub copy-a-requires : goal.copy-a-requires
copy-a-requires c = search (rules, applied_room)

pub copy-b-requires : goal.copy-b-requires
copy-b-requires c = search (rules, issued_room)

pub copy-requires : goal.copy-requires
copy-requires c = search (rules, rest_room)

pub returns : goal.returns
returns c = search (rules, dates_put)
