-- A changed item is built first; of another the mark says where its record stands.
use Rattle.resultitems.proofs.ItemLaws.{new_stood, kept_stood}
use Rattle.renewal.proofs.ItemLaws.{new_writable, kept_writable, stood_sized}
use Rattle.renewal.proofs.SameLaws.{changed_told, new_told, kept_told}
use Rattle.std.proofs.Common.{rules}
use Rattle.renewal.proofs.item.size_at.Goals as goal

pub returns-then-a-eq1 : goal.returns-then-a-eq1
returns-then-a-eq1 c = record {
  object_sized = search (rules, stood_sized);
  told = search (rules, changed_told);
  rooms = search rules;
}

pub known_size-requires : goal.known_size-requires
known_size-requires c = search (rules, new_writable)

pub returns-then-a-eq1-2 : goal.returns-then-a-eq1-2
returns-then-a-eq1-2 c = record {
  object_sized = search (rules, new_stood, stood_sized);
  told = search (rules, new_told);
  rooms = search rules;
}

pub known_size-requires-2 : goal.known_size-requires-2
known_size-requires-2 c = search (rules, kept_writable)

pub returns : goal.returns
returns c = record {
  object_sized = search (rules, kept_stood, stood_sized);
  told = search (rules, kept_told);
  rooms = search rules;
}
