use Rattle.std.proofs.Common.{rules, arith}
use Rattle.formats.proofs.FormatsLaws.{list_none, list_shut, list_start, list_over, turn_none, turn_closed, turn_open, turn_further}
use Rattle.formats.proofs.+list.Goals as goal

pub returns-then-levels-eq0 : goal.returns-then-levels-eq0
returns-then-levels-eq0 t c = search (rules, list_none)

pub returns-then-byte-ne40 : goal.returns-then-byte-ne40
returns-then-byte-ne40 t c = search (rules, list_shut)

pub loop-init : goal.loop-init
loop-init t c = search (rules, list_start)

pub list-inner-requires : goal.list-inner-requires
list-inner-requires t c = (omega arith, tt)

pub returns-then-end-eq0 : goal.returns-then-end-eq0
returns-then-end-eq0 t c = search (rules, turn_none)

pub overflow_add-result : goal.overflow_add-result
overflow_add-result t c = omega (
  arith,
  c.byte-mark.ensures.inside,
  c.well_formed.0.0,
)

pub returns-then-mark-eq41 : goal.returns-then-mark-eq41
returns-then-mark-eq41 t c = search (rules, turn_closed)

pub returns-then-mark-ne44 : goal.returns-then-mark-ne44
returns-then-mark-ne44 t c = search (rules, turn_open)

pub overflow_add-from-in-loop : goal.overflow_add-from-in-loop
overflow_add-from-in-loop t c = omega (
  arith,
  c.byte-mark.ensures.inside,
  c.well_formed.0.0,
)

pub loop-preserved : goal.loop-preserved
loop-preserved t c = search (rules, turn_further)

pub returns : goal.returns
returns t c = search (rules, list_over)
