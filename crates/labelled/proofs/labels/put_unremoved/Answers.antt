-- Nothing, or the entry.
use Rattle.std.proofs.Common.{rules}
use Rattle.labelled.proofs.FoundLaws.{removed_put, unremoved_room, unremoved_put, entry_long}
use Rattle.labelled.proofs.labels.put_unremoved.Goals as goal

pub is_removal-requires : goal.is_removal-requires
is_removal-requires c = (search (rules, entry_long), search rules)

pub returns-then-is_removal : goal.returns-then-is_removal
returns-then-is_removal c = search (rules, removed_put)

pub copy_part-requires : goal.copy_part-requires
copy_part-requires c = (search rules, search rules, search (rules, unremoved_room))

pub returns : goal.returns
returns c = search (rules, unremoved_put)
