-- A field of the list's kind brings the entries of its bytes, any other none.
use Rattle.items.proofs.ListsLaws.{field_some, field_ends}
use Rattle.std.proofs.Common.{arith, rules}
use Rattle.items.proofs.CountLaws.{part_divided, part_counted, part_uncounted}
use Rattle.items.proofs.count.part_count.Goals as goal

pub overflow_sub-size : goal.overflow_sub-size
overflow_sub-size c = search (rules, field_some)

pub returns-then-unit-eq0 : goal.returns-then-unit-eq0
returns-then-unit-eq0 c = part_divided _ _ _ _ _ _ _ c.tag.ensures c.kind_of.ensures.0
    (search rules) c.field-f.ensures _ c.shape_of-shape.ensures.0
    c.requires.0.laid c.requires.1
    c.shape_of-shape.ensures.1 (search rules)

pub overflow_add-to : goal.overflow_add-to
overflow_add-to c = let ends = field_ends _ _ _ _ c.requires.0.laid c.field-f.ensures
    c.requires.1 in omega arith

pub slice_bounds-extent_of-end : goal.slice_bounds-extent_of-end
slice_bounds-extent_of-end c = let ends = field_ends _ _ _ _ c.requires.0.laid
    c.field-f.ensures c.requires.1 in omega arith

pub returns-then-kind_of-k : goal.returns-then-kind_of-k
returns-then-kind_of-k c = part_counted _ _ _ _ _ _ _ c.tag.ensures
    c.kind_of.ensures.0 (search rules) c.field-f.ensures
    _ c.shape_of-shape.ensures.0 _ c.extent_of-all.ensures.0

pub returns : goal.returns
returns c = search (rules, part_uncounted)
