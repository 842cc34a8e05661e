-- By the list's size: nothing, or the list and its 1E.
use Rattle.std.proofs.Common.{rules}
use Rattle.joining.proofs.PartLaws.{field_none, field_room, field_last, field_put}
use Rattle.joining.proofs.lists.put_field.Goals as goal

pub returns-then-t-eq0 : goal.returns-then-t-eq0
returns-then-t-eq0 c = search (rules, field_none)

pub put_list-end-requires : goal.put_list-end-requires
put_list-end-requires c = (search rules, search (rules, field_room))

pub put1-requires : goal.put1-requires
put1-requires c = search (rules, field_last)

pub returns : goal.returns
returns c = search (rules, field_put)
