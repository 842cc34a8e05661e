use Rattle.std.proofs.Common.{arith, rules}
use Rattle.iso8211.proofs.Promise.{fields_in, due_first, due_next}
use Rattle.layout.proofs.LayoutLaws.{field_fits, field_long, start_within, laid_start, turn_wrong, turn_on, end_missing, end_well}
use Rattle.layout.proofs.layout_fault.Goals as goal

pub overflow_add-due : goal.overflow_add-due
overflow_add-due c = let h = c.head_of-head.ensures.base in let high = c.requires.0.framed.high in let fits =
    c.requires.0.framed.fits in omega arith

pub loop-j-init : goal.loop-j-init
loop-j-init c = (search rules, due_first _ c.requires.0 (omega arith), search (rules, laid_start))

pub field_on-f-requires : goal.field_on-f-requires
field_on-f-requires c = (omega arith, (c.loop-j.invariant.1, search (rules, fields_in)))

pub field_laid-requires : goal.field_laid-requires
field_laid-requires c = (search (rules, field_fits), search (rules, field_long), search rules)

pub returns-then-not-field_laid : goal.returns-then-not-field_laid
returns-then-not-field_laid c = (search (rules, turn_wrong), search (rules, start_within))

pub overflow_add-due-in-loop-j : goal.overflow_add-due-in-loop-j
overflow_add-due-in-loop-j c = omega (
  arith,
  field_fits _ _ _ _ c.requires.0
      c.loop-j.invariant.0 c.loop-j-test.true
      _ c.field_on-f.ensures,
)

pub loop-j-preserved : goal.loop-j-preserved
loop-j-preserved c = (
  c.loop-j.invariant.0,
  due_next _ _ c.requires.0 c.field_on-f.ensures,
  turn_on _ _ _ _ _ _ _ _ c.loop-j.invariant.0 c.loop-j.invariant.2
      c.loop-j-test.true _ c.field_on-f.ensures _ c.field_laid.ensures
      _ c.kind_of-prev.ensures.0 c.if-not-field_laid.false-raw,
)

pub returns-then-not-may_end : goal.returns-then-not-may_end
returns-then-not-may_end c = (search (rules, end_missing), search rules)

pub returns : goal.returns
returns c = (search (rules, end_well), search rules)
