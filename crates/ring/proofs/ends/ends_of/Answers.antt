use Rattle.std.proofs.Common.{arith, rules}
use Rattle.items.proofs.CursorLaws.{begin_in, through_begin, through_done, through_on, next_up, next_within, next_bytes, next_less, next_in}
use Rattle.items.proofs.KindLaws.{vrpt_fixed}
use Rattle.ring.proofs.StepLaws.{ends_both}
use Rattle.ring.proofs.ends.ends_of.Goals as goal

pub loop-from-init : goal.loop-from-init
loop-from-init c = (search (rules, begin_in), search (rules, through_begin), search (rules, through_begin), omega arith, omega arith)

pub slice_bounds-node_step-count : goal.slice_bounds-node_step-count
slice_bounds-node_step-count c = search (rules, next_up)

pub slice_bounds-node_step-start : goal.slice_bounds-node_step-start
slice_bounds-node_step-start c = search (rules, next_up)

pub slice_bounds-node_step-end : goal.slice_bounds-node_step-end
slice_bounds-node_step-end c = search (rules, next_within)

pub node_step-first-requires : goal.node_step-first-requires
node_step-first-requires c = search (rules, next_bytes, vrpt_fixed)

pub slice_bounds-node_step-count-in-Some : goal.slice_bounds-node_step-count-in-Some
slice_bounds-node_step-count-in-Some c = search (rules, next_up)

pub slice_bounds-node_step-start-in-Some : goal.slice_bounds-node_step-start-in-Some
slice_bounds-node_step-start-in-Some c = search (rules, next_up)

pub slice_bounds-node_step-end-in-Some : goal.slice_bounds-node_step-end-in-Some
slice_bounds-node_step-end-in-Some c = search (rules, next_within)

pub node_step-last-requires : goal.node_step-last-requires
node_step-last-requires c = search (rules, next_bytes, vrpt_fixed)

pub loop-from-smaller : goal.loop-from-smaller
loop-from-smaller c = search (rules, next_less)

pub loop-from-preserved : goal.loop-from-preserved
loop-from-preserved c = (search (rules, next_in), search (rules, through_on), search (rules, through_on), search rules, search rules)

pub returns : goal.returns
returns c = search (rules, ends_both, through_done)
