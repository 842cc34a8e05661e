use Rattle.std.proofs.Common.{arith, rules}
use Rattle.octets.proofs.AreaLaws.{going_length}
use Rattle.items.proofs.ListsLaws.{field_fits}
use Rattle.joining.proofs.PartLaws.{due_start, due_on, list_start, list_room, list_on, list_end}
use Rattle.joining.proofs.lists.put_list.Goals as goal

pub loop-j-init : goal.loop-j-init
loop-j-init c = (search (rules, due_start), search (rules, list_start))

pub overflow_add-due-in-loop-j : goal.overflow_add-due-in-loop-j
overflow_add-due-in-loop-j c =
    let start = c.requires in
    let fits = field_fits _ _ _ _ start.0 c.field_on-f.ensures (omega arith) in
    omega arith

pub put_part-next-requires : goal.put_part-next-requires
put_part-next-requires c = (search rules, search rules, search rules, search (rules, list_room))

pub loop-j-preserved : goal.loop-j-preserved
loop-j-preserved c = (search (rules, due_on), search (rules, list_on))

pub shape_of-out : goal.shape_of-out
shape_of-out c = search (rules, going_length)

pub returns : goal.returns
returns c = search (rules, list_end)
