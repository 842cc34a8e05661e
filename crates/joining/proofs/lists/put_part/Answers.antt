-- By the field's kind: its bytes without the 1E are copied.
use Rattle.std.proofs.Common.{arith, rules}
use Rattle.items.proofs.ListsLaws.{field_some, field_fits, field_ends}
use Rattle.joining.proofs.PartLaws.{part_room, part_copied, part_passed}
use Rattle.joining.proofs.lists.put_part.Goals as goal

pub overflow_sub-to : goal.overflow_sub-to
overflow_sub-to c = search (rules, field_some)

pub overflow_add-to : goal.overflow_add-to
overflow_add-to c =
    let start = c.requires in
    let fits = field_fits _ _ _ _ start.0 start.2 start.1 in
    omega arith

pub slice_bounds-copy-end : goal.slice_bounds-copy-end
slice_bounds-copy-end c = search (rules, field_ends)

pub copy-requires : goal.copy-requires
copy-requires c = search (rules, part_room)

pub returns-then-kind_of-k : goal.returns-then-kind_of-k
returns-then-kind_of-k c = search (rules, part_copied)

pub returns : goal.returns
returns c = search (rules, part_passed)
