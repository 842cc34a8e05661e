-- DSSI and 1E; the levels are the cell's. Assumes nothing.
use Rattle.fronts.proofs.FrontLaws.{levels_there, counts_room, counts_put}
use Rattle.std.proofs.Common.{rules}
use Rattle.fronts.proofs.front.put_counts.Goals as goal

pub levels_at-l-requires : goal.levels_at-l-requires
levels_at-l-requires c = search (rules, levels_there)

pub put1-requires : goal.put1-requires
put1-requires c = search (rules, counts_room)

pub returns : goal.returns
returns c = search (rules, counts_put)
