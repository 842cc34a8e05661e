use Rattle.std.proofs.Common.{rules}
use Rattle.merge.proofs.WeaveLaws.{weaving_start, weaving_cell, weaving_update, weaving_room, weaving_on, weaving_done}
use Rattle.merge.proofs.weave.weave.Goals as goal

pub loop-i-init : goal.loop-i-init
loop-i-init c = search (rules, weaving_start)

pub taken-t-requires : goal.taken-t-requires
taken-t-requires c = (search (rules, weaving_room), search (rules, weaving_room), search rules, search (rules, weaving_cell), search (rules, weaving_update))

pub set_down-requires : goal.set_down-requires
set_down-requires c = (search rules, search (rules, weaving_room))

pub loop-i-preserved : goal.loop-i-preserved
loop-i-preserved c = search (rules, weaving_on)

pub returns : goal.returns
returns c = search (rules, weaving_done)
