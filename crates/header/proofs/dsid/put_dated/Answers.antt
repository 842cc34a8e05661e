-- What stands before EDTN and behind the dates is lent as it stands. Assumes nothing.
use Rattle.header.proofs.PutLaws.{names_room, dates_room, dated_put}
use Rattle.std.proofs.Common.{rules}
use Rattle.header.proofs.dsid.put_dated.Goals as goal

pub put_names-a-requires : goal.put_names-a-requires
put_names-a-requires c = search (rules, names_room)

pub put_dates-requires : goal.put_dates-requires
put_dates-requires c = search (rules, dates_room)

pub returns : goal.returns
returns c = search (rules, dated_put)
