use Rattle.std.proofs.Common.{sym, ◌∙◌, arith, rules}
use Rattle.iso8211.proofs.Promise.{fields_in, due_first, due_next}
use Rattle.fieldvalue.proofs.ValueLaws.{walked_start, walked_on, walked_stop, walked_end, field_facts, lent_content, lent_filled, lent_length}
use Rattle.fieldvalue.proofs.value.value_fault.Goals as goal

pub overflow_add-due : goal.overflow_add-due
overflow_add-due c = let h = c.head_of-head.ensures.base in let high = c.requires.0.known.framed.high in let fits =
    c.requires.0.known.framed.fits in omega arith

pub loop-j-init : goal.loop-j-init
loop-j-init c = (c.requires.1.1, walked_start _ _ _ _ _ _, due_first _ c.requires.0.known (omega arith))

pub field_on-f-requires : goal.field_on-f-requires
field_on-f-requires c = (omega arith, (c.loop-j.invariant.2, search (rules, fields_in)))

pub overflow_sub-to : goal.overflow_sub-to
overflow_sub-to c = let i = field_facts c.loop-j.j _ c.requires.0
    (omega arith) c.field_on-f.ensures in let fits =
    c.requires.0.known.framed.fits in omega arith

pub overflow_add-to : goal.overflow_add-to
overflow_add-to c = let i = field_facts c.loop-j.j _ c.requires.0
    (omega arith) c.field_on-f.ensures in let fits =
    c.requires.0.known.framed.fits in omega arith

pub slice_bounds-field_fault-end : goal.slice_bounds-field_fault-end
slice_bounds-field_fault-end c = let i =
    field_facts c.loop-j.j _ c.requires.0 (omega arith)
    c.field_on-f.ensures in let fits =
    c.requires.0.known.framed.fits in omega arith

pub field_fault-judged-requires : goal.field_fault-judged-requires
field_fault-judged-requires c = (
  lent_filled _ _ _ c.requires.0 (omega arith)
      c.field_on-f.ensures c.kind_of-k.ensures.0,
  c.loop-j.invariant.0,
)

pub overflow_add-result : goal.overflow_add-result
overflow_add-result c = let i = field_facts c.loop-j.j
    _ c.requires.0 (omega arith)
    c.field_on-f.ensures in let fits =
    c.requires.0.known.framed.fits in let l =
    lent_length c.field_on-f.result i fits in let w =
    c.in-Err.ensures.within in omega arith

pub shape_of-table-in-Err : goal.shape_of-table-in-Err
shape_of-table-in-Err c = c.field_fault-judged.auto.table
    ∙ c.loop-j.invariant.0
    ∙ sym c.requires.1.1

pub returns-in-Err : goal.returns-in-Err
returns-in-Err c = let i = field_facts c.loop-j.j
    _ c.requires.0 (omega arith)
    c.field_on-f.ensures in let fits =
    c.requires.0.known.framed.fits in let l =
    lent_length c.field_on-f.result i fits in let w =
    c.in-Err.ensures.within in walked_stop c.field_on-f.result
    c.loop-j.invariant.1 (omega arith)
    c.field_on-f.ensures
    c.kind_of-k.ensures.0
    c.kind_of-k.ensures.1
    (lent_content c.args.s.now
    c.field_on-f.result) c.stamp_of-stamp.ensures
    c.field_fault-judged.ensures
    c.requires.0.known.framed i c.in-Err.is
    (omega arith)

pub overflow_add-due-in-loop-j : goal.overflow_add-due-in-loop-j
overflow_add-due-in-loop-j c = let i = field_facts c.loop-j.j
    _ c.requires.0 (omega arith)
    c.field_on-f.ensures in let fits =
    c.requires.0.known.framed.fits in
    let within = i.within in let short =
    c.requires.1.0 in omega arith

pub loop-j-preserved : goal.loop-j-preserved
loop-j-preserved c = (
  c.field_fault-judged.auto.table
      ∙ c.loop-j.invariant.0,
  walked_on c.field_on-f.result
      c.loop-j.invariant.1 (omega arith)
      c.field_on-f.ensures
      c.kind_of-k.ensures.0
      c.kind_of-k.ensures.1
      (lent_content c.args.s.now
      c.field_on-f.result)
      c.stamp_of-stamp.ensures c.field_fault-judged.ensures c.in_default.is,
  due_next _ _ c.requires.0.known
      c.field_on-f.ensures,
)

pub shape_of-table : goal.shape_of-table
shape_of-table c = c.loop-j.invariant.0 ∙ sym c.requires.1.1

pub returns : goal.returns
returns c = walked_end c.loop-j.invariant.1 c.requires.0.known.framed (omega arith) (omega arith)
