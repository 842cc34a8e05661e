use Rattle.std.proofs.Common.{arith, rules}
use Rattle.recordfine.proofs.WalkLaws.{passed_on, due_most, row_room, row_within_so, row_ends_so, fields_not, fields_so}
use Rattle.recordfine.proofs.fields_fine.Goals as goal

pub loop-i-init : goal.loop-i-init
loop-i-init c = (search rules, search rules, c.front-next.ensures.passed _ _ _)

pub row_fine-long-requires : goal.row_fine-long-requires
row_fine-long-requires c = (
  search rules,
  search rules,
  row_room c.loop-i.invariant.2 c.requires.0 c.loop-i-test.true,
  search rules,
  search rules,
  search rules,
)

pub returns-then-long-eq0 : goal.returns-then-long-eq0
returns-then-long-eq0 c = fields_not

pub overflow_add-body : goal.overflow_add-body
overflow_add-body c = let w = row_within_so c.row_fine-long.ensures c.if-long-eq0.false in omega arith

pub tag_at-requires : goal.tag_at-requires
tag_at-requires c = omega (
  arith,
  row_room c.loop-i.invariant.2 c.requires.0
      c.loop-i-test.true,
)

pub field_at-k-requires : goal.field_at-k-requires
field_at-k-requires c = let w = row_within_so c.row_fine-long.ensures c.if-long-eq0.false in
    (omega arith, omega arith, row_ends_so c.row_fine-long.ensures c.if-long-eq0.false, search rules, search rules)

pub returns-then-k-eq-START : goal.returns-then-k-eq-START
returns-then-k-eq-START c = fields_not

pub overflow_add-due : goal.overflow_add-due
overflow_add-due c = omega (
  arith,
  row_within_so c.row_fine-long.ensures
      c.if-long-eq0.false,
)

pub overflow_add-i : goal.overflow_add-i
overflow_add-i c = omega (arith, c.requires.0.slim.0)

pub overflow_add-i-in-loop-i : goal.overflow_add-i-in-loop-i
overflow_add-i-in-loop-i c = omega (
  arith,
  c.requires.0.slim.0,
  c.requires.0.slim.1,
)

pub overflow_add-i-in-loop-i-2 : goal.overflow_add-i-in-loop-i-2
overflow_add-i-in-loop-i-2 c = omega (
  arith,
  row_room c.loop-i.invariant.2
      c.requires.0
      c.loop-i-test.true,
)

pub loop-i-smaller : goal.loop-i-smaller
loop-i-smaller c = omega (arith, c.loop-i-test.true)

pub loop-i-preserved : goal.loop-i-preserved
loop-i-preserved c = (
  due_most c.loop-i.invariant.2
      c.requires.0
      c.loop-i-test.true
      c.row_fine-long.ensures c.if-long-eq0.false
      c.tag_at.ensures c.field_at-k.ensures c.if-k-eq-START.false
      c.stamp_of-stamp.ensures,
  search rules,
  passed_on c.loop-i.invariant.2
      c.requires.0
      c.loop-i-test.true
      c.row_fine-long.ensures c.if-long-eq0.false
      c.tag_at.ensures c.field_at-k.ensures c.if-k-eq-START.false c.stamp_of-stamp.ensures,
)

pub returns : goal.returns
returns c = fields_so _ c.loop-i.invariant.2 c.requires.0 c.loop-i-test.false
    c.is_whole.ensures
