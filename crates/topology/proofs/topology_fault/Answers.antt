-- The words in held order, their notes, then the items.
use Rattle.std.proofs.Common.{refl, arith, rules}
use Rattle.names.proofs.ReadableLaws.{readable_three}
use Rattle.topology.proofs.TopologyLaws.{held_order_lem, held_roomy, held_next, held_few, held_fault, held_stays}
use Rattle.topology.proofs.SeenLaws.{held_clear}
use Rattle.topology.proofs.topology_fault.Goals as goal

pub overflow_sub-m : goal.overflow_sub-m
overflow_sub-m c = search (rules, readable_three)

pub comf_of-comf-requires : goal.comf_of-comf-requires
comf_of-comf-requires c = search (rules, readable_three)

pub prepare-ready-requires : goal.prepare-ready-requires
prepare-ready-requires c = (search (rules, held_roomy), search (rules, held_order_lem), search rules)

pub items_fault-requires : goal.items_fault-requires
items_fault-requires c = (search (rules, held_next), search rules, search rules, search (rules, held_few), search (rules, held_clear))

pub returns : goal.returns
returns c = record {
  value = held_fault c.requires.0
      c.requires.2 refl (search rules)
      (λ i. omega (arith, c.type_inv.s i)) _ (search rules) c.items_fault.ensures;
  held_in = search (rules, held_stays);
}
