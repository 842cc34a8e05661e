-- Two bytes and 1E. Assumes nothing.
use Rattle.fronts.proofs.FrontLaws.{ended_room, ended, number_end}
use Rattle.std.proofs.Common.{rules}
use Rattle.fronts.proofs.front.put_number.Goals as goal

pub put1-requires : goal.put1-requires
put1-requires c = search (rules, ended_room)

pub returns : goal.returns
returns c = (search (rules, ended), search (rules, number_end))
