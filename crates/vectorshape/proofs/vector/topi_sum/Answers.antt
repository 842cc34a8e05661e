use Rattle.items.proofs.CursorLaws.{begin_in, through_begin, through_done, next_up, next_within, next_bytes, next_less, next_in}
use Rattle.items.proofs.KindLaws.{vrpt_fixed}
use Rattle.vectorshape.proofs.ShapeLaws.{topi_start, topi_on, topi_few}
use Rattle.std.proofs.Common.{rules}
use Rattle.vectorshape.proofs.vector.topi_sum.Goals as goal

pub loop-from-init : goal.loop-from-init
loop-from-init c = (search (rules, begin_in), search (rules, through_begin), search (rules, topi_start))

pub slice_bounds-topi_of-count : goal.slice_bounds-topi_of-count
slice_bounds-topi_of-count c = search (rules, next_up)

pub slice_bounds-topi_of-start : goal.slice_bounds-topi_of-start
slice_bounds-topi_of-start c = search (rules, next_up)

pub slice_bounds-topi_of-end : goal.slice_bounds-topi_of-end
slice_bounds-topi_of-end c = search (rules, next_within)

pub topi_of-sum-requires : goal.topi_of-sum-requires
topi_of-sum-requires c = search (rules, next_bytes, vrpt_fixed)

pub loop-from-smaller : goal.loop-from-smaller
loop-from-smaller c = search (rules, next_less)

pub loop-from-preserved : goal.loop-from-preserved
loop-from-preserved c = (search (rules, next_in), search (rules, topi_on), search (rules, topi_few))

pub returns : goal.returns
returns c = search (rules, through_done)
