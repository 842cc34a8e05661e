-- A changed item is built first; of another the mark says where its record stands.
use Rattle.resultitems.proofs.ItemLaws.{new_stood, kept_stood}
use Rattle.renewal.proofs.ItemLaws.{new_writable, kept_writable, stood_room, stood_wrote}
use Rattle.renewal.proofs.SameLaws.{new_same, kept_same}
use Rattle.std.proofs.Common.{rules}
use Rattle.renewal.proofs.item.put_at.Goals as goal

pub put_item-requires : goal.put_item-requires
put_item-requires c = (search rules, search (rules, stood_room))

pub returns-then-a-eq1 : goal.returns-then-a-eq1
returns-then-a-eq1 c = record {
  wrote = search (rules, stood_wrote);
  rooms = search rules;
}

pub put_kept-requires : goal.put_kept-requires
put_kept-requires c = (search (rules, new_writable), search (rules, new_same), search (rules, new_stood, stood_room))

pub returns-then-a-eq1-2 : goal.returns-then-a-eq1-2
returns-then-a-eq1-2 c = record {
  wrote = search (rules, new_stood, stood_wrote);
  rooms = search rules;
}

pub put_kept-requires-2 : goal.put_kept-requires-2
put_kept-requires-2 c = (search (rules, kept_writable), search (rules, kept_same), search (rules, kept_stood, stood_room))

pub returns : goal.returns
returns c = record {
  wrote = search (rules, kept_stood, stood_wrote);
  rooms = search rules;
}
