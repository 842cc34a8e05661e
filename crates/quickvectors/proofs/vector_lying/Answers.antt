-- Coordinates first; then a node by the sizes of its lists, an edge by its pointers.
use Rattle.quickvectors.proofs.VectorLaws.{told_no, told_node, told_edge, id_room, list_order}
use Rattle.std.proofs.Common.{rules}
use Rattle.quickvectors.proofs.vector_lying.Goals as goal

pub returns-then-not-list_within : goal.returns-then-not-list_within
returns-then-not-list_within c = search (rules, told_no)

pub returns-then-not-list_within-2 : goal.returns-then-not-list_within-2
returns-then-not-list_within-2 c = search (rules, told_no)

pub get1-rcnm-requires : goal.get1-rcnm-requires
get1-rcnm-requires c = search (rules, id_room)

pub node_shaped-requires : goal.node_shaped-requires
node_shaped-requires c = (search (rules, list_order), search (rules, list_order))

pub returns-then-rcnm-ne130 : goal.returns-then-rcnm-ne130
returns-then-rcnm-ne130 c = search (rules, told_node)

pub returns-then-soundings : goal.returns-then-soundings
returns-then-soundings c = search (rules, told_no)

pub returns : goal.returns
returns c = search (rules, told_edge)
