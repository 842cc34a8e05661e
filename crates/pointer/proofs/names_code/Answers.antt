use Rattle.items.proofs.CursorLaws.{begin_in, next_up, next_within, next_less, next_in}
use Rattle.pointer.proofs.PointerLaws.{name_bytes, names_begin, names_done, names_missing, names_on}
use Rattle.std.proofs.Common.{rules}
use Rattle.pointer.proofs.names_code.Goals as goal

pub loop-from-init : goal.loop-from-init
loop-from-init c = (search (rules, begin_in), search (rules, names_begin))

pub slice_bounds-name_in-count : goal.slice_bounds-name_in-count
slice_bounds-name_in-count c = search (rules, next_up)

pub slice_bounds-name_in-start : goal.slice_bounds-name_in-start
slice_bounds-name_in-start c = search (rules, next_up)

pub slice_bounds-name_in-end : goal.slice_bounds-name_in-end
slice_bounds-name_in-end c = search (rules, next_within)

pub name_in-requires : goal.name_in-requires
name_in-requires c = search (rules, name_bytes)

pub returns-in_default-index_of : goal.returns-in_default-index_of
returns-in_default-index_of c = search (rules, names_missing)

pub loop-from-smaller : goal.loop-from-smaller
loop-from-smaller c = search (rules, next_less)

pub loop-from-preserved : goal.loop-from-preserved
loop-from-preserved c = (search (rules, next_in), search (rules, names_on))

pub returns : goal.returns
returns c = search (rules, names_done)
