-- The plan, by numbers alone: the rows before the lists and those of the lists; then head and fields are written by it.
use Rattle.std.proofs.Common.{arith, rules}
use Rattle.writing.proofs.JoinedLaws.{lead_within, joined_head, joined_room, joined_put}
use Rattle.writing.proofs.joined.put_record.Goals as goal

pub put_head-a-requires : goal.put_head-a-requires
put_head-a-requires c = (omega arith, (omega arith, search (rules, joined_head)))

pub put_fields-requires : goal.put_fields-requires
put_fields-requires c = (search rules, search rules, search (rules, lead_within), search (rules, joined_room))

pub returns : goal.returns
returns c = search (rules, joined_put)
