-- A node of one pair by that pair; else its lists by one walk.
use Rattle.topology.proofs.QuickLaws.{vector_id, vector_reached}
use Rattle.topology.proofs.SeenLaws.{seen_note, alone_node, seen_node}
use Rattle.std.proofs.Common.{rules}
use Rattle.topology.proofs.seen.vector_seen.Goals as goal

pub returns-in_default : goal.returns-in_default
returns-in_default c = search (rules, seen_note)

pub node_alone-requires : goal.node_alone-requires
node_alone-requires c = (search rules, search rules, search (rules, vector_reached))

pub pair_lying-requires : goal.pair_lying-requires
pair_lying-requires c = (search (rules, alone_node), search rules)

pub returns-then-node_alone : goal.returns-then-node_alone
returns-then-node_alone c = search (rules, seen_node)

pub lists_seen-requires : goal.lists_seen-requires
lists_seen-requires c =
    (search rules, search rules, search (rules, vector_id), search (rules, vector_reached), search rules, search rules)
