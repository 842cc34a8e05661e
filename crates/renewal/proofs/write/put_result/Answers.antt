-- The records in front, then those of the items.
use Rattle.renewal.proofs.ResultLaws.{front_room, items_room, result_put}
use Rattle.std.proofs.Common.{rules}
use Rattle.renewal.proofs.write.put_result.Goals as goal

pub put_fore-next-requires : goal.put_fore-next-requires
put_fore-next-requires c = (search rules, search (rules, front_room))

pub put_items-requires : goal.put_items-requires
put_items-requires c = (search rules, search rules, search rules, search (rules, items_room))

pub returns : goal.returns
returns c = record {
  wrote = search (rules, result_put);
  rooms = search rules;
}
