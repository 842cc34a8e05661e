use Rattle.std.proofs.Common.{rules}
use Rattle.raising.proofs.FrontLaws.{foid_room, foid_last, foid_put, foid_end}
use Rattle.raising.proofs.heading.put_foid.Goals as goal

pub copy-a-requires : goal.copy-a-requires
copy-a-requires c = search (rules, foid_room)

pub put1-requires : goal.put1-requires
put1-requires c = search (rules, foid_last)

pub returns : goal.returns
returns c = (search (rules, foid_put), search (rules, foid_end))
