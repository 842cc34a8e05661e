use Rattle.items.proofs.CursorLaws.{begin_in, next_up, next_within, next_less, next_in}
use Rattle.pointer.proofs.PointerLaws.{lnam_bytes, lnams_begin, lnams_done, lnams_missing, lnams_on}
use Rattle.std.proofs.Common.{rules}
use Rattle.pointer.proofs.lnams_code.Goals as goal

pub loop-from-init : goal.loop-from-init
loop-from-init c = (search (rules, begin_in), search (rules, lnams_begin))

pub slice_bounds-get8-count : goal.slice_bounds-get8-count
slice_bounds-get8-count c = search (rules, next_up)

pub slice_bounds-get8-start : goal.slice_bounds-get8-start
slice_bounds-get8-start c = search (rules, next_up)

pub slice_bounds-get8-end : goal.slice_bounds-get8-end
slice_bounds-get8-end c = search (rules, next_within)

pub get8-requires : goal.get8-requires
get8-requires c = search (rules, lnam_bytes)

pub returns-then-not-has_word : goal.returns-then-not-has_word
returns-then-not-has_word c = search (rules, lnams_missing)

pub loop-from-smaller : goal.loop-from-smaller
loop-from-smaller c = search (rules, next_less)

pub loop-from-preserved : goal.loop-from-preserved
loop-from-preserved c = (search (rules, next_in), search (rules, lnams_on))

pub returns : goal.returns
returns c = search (rules, lnams_done)
