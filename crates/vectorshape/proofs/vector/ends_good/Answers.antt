use Rattle.items.proofs.CursorLaws.{begin_in, all_begin, all_done, all_no, all_on, next_up, next_within, next_bytes, next_less, next_in}
use Rattle.items.proofs.KindLaws.{vrpt_fixed}
use Rattle.std.proofs.Common.{rules}
use Rattle.vectorshape.proofs.vector.ends_good.Goals as goal

pub loop-from-init : goal.loop-from-init
loop-from-init c = (search (rules, begin_in), search (rules, all_begin))

pub slice_bounds-end_good-count : goal.slice_bounds-end_good-count
slice_bounds-end_good-count c = search (rules, next_up)

pub slice_bounds-end_good-start : goal.slice_bounds-end_good-start
slice_bounds-end_good-start c = search (rules, next_up)

pub slice_bounds-end_good-end : goal.slice_bounds-end_good-end
slice_bounds-end_good-end c = search (rules, next_within)

pub end_good-requires : goal.end_good-requires
end_good-requires c = search (rules, next_bytes, vrpt_fixed)

pub returns-then-not-end_good : goal.returns-then-not-end_good
returns-then-not-end_good c = search (rules, all_no)

pub loop-from-smaller : goal.loop-from-smaller
loop-from-smaller c = search (rules, next_less)

pub loop-from-preserved : goal.loop-from-preserved
loop-from-preserved c = (search (rules, next_in), search (rules, all_on))

pub returns : goal.returns
returns c = search (rules, all_done)
