-- Nothing, or the entry.
use Rattle.std.proofs.Common.{rules}
use Rattle.labelled.proofs.WorkedLaws.{old_put, new_room, new_put}
use Rattle.labelled.proofs.labels.put_new.Goals as goal

pub returns-then-p-eq-USED : goal.returns-then-p-eq-USED
returns-then-p-eq-USED c = search (rules, old_put)

pub copy_part-requires : goal.copy_part-requires
copy_part-requires c = (search rules, search rules, search (rules, new_room))

pub returns : goal.returns
returns c = search (rules, new_put)
