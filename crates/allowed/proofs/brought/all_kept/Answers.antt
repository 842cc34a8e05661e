use Rattle.items.proofs.CursorLaws.{begin_in, all_begin, all_done, all_no, all_on, next_up, next_within, next_less, next_in}
use Rattle.std.proofs.Common.{rules}
use Rattle.allowed.proofs.brought.all_kept.Goals as goal

pub loop-from-init : goal.loop-from-init
loop-from-init c = (search (rules, begin_in), search (rules, all_begin))

pub slice_bounds-is_kept-count : goal.slice_bounds-is_kept-count
slice_bounds-is_kept-count c = search (rules, next_up)

pub slice_bounds-is_kept-start : goal.slice_bounds-is_kept-start
slice_bounds-is_kept-start c = search (rules, next_up)

pub slice_bounds-is_kept-end : goal.slice_bounds-is_kept-end
slice_bounds-is_kept-end c = search (rules, next_within)

pub returns-then-not-is_kept : goal.returns-then-not-is_kept
returns-then-not-is_kept c = search (rules, all_no)

pub loop-from-smaller : goal.loop-from-smaller
loop-from-smaller c = search (rules, next_less)

pub loop-from-preserved : goal.loop-from-preserved
loop-from-preserved c = (search (rules, next_in), search (rules, all_on))

pub returns : goal.returns
returns c = search (rules, all_done)
