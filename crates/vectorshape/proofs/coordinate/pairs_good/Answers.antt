use Rattle.items.proofs.CursorLaws.{begin_in, all_begin}
use Rattle.items.proofs.PartLaws.{part_up, part_within, part_in, part_less, bare_told, parts_done, parts_no, parts_on}
use Rattle.std.proofs.Common.{rules}
use Rattle.vectorshape.proofs.coordinate.pairs_good.Goals as goal

pub loop-from-init : goal.loop-from-init
loop-from-init c = (search (rules, begin_in), search (rules, all_begin))

pub slice_bounds-part_pairs-count : goal.slice_bounds-part_pairs-count
slice_bounds-part_pairs-count c = search (rules, part_up)

pub slice_bounds-part_pairs-start : goal.slice_bounds-part_pairs-start
slice_bounds-part_pairs-start c = search (rules, part_up)

pub slice_bounds-part_pairs-end : goal.slice_bounds-part_pairs-end
slice_bounds-part_pairs-end c = search (rules, part_within)

pub returns-then-not-part_pairs : goal.returns-then-not-part_pairs
returns-then-not-part_pairs c = search (rules, parts_no, bare_told)

pub loop-from-smaller : goal.loop-from-smaller
loop-from-smaller c = search (rules, part_less)

pub loop-from-preserved : goal.loop-from-preserved
loop-from-preserved c = (search (rules, part_in), search (rules, parts_on, bare_told))

pub returns : goal.returns
returns c = search (rules, parts_done)
