-- The number tells what the update brings of the label.
use Rattle.std.proofs.Common.{rules}
use Rattle.labelled.proofs.FoundLaws.{kept_room, kept_put, found_within, found_some, found_room, found_put}
use Rattle.labelled.proofs.labels.put_instead.Goals as goal

pub copy_part-requires : goal.copy_part-requires
copy_part-requires c = (search rules, search rules, search (rules, kept_room))

pub returns-then-p-eq0 : goal.returns-then-p-eq0
returns-then-p-eq0 c = search (rules, kept_put)

pub put_unremoved-requires : goal.put_unremoved-requires
put_unremoved-requires c = (search (rules, found_within), search (rules, found_some), search (rules, found_room))

pub returns : goal.returns
returns c = search (rules, found_put)
