use Rattle.resultitems.proofs.PlacesLaws.{walk_able, walk_rest}
use Rattle.resultitems.proofs.AllLaws.{able_start, items_start, items_room, items_on, items_end}
use Rattle.renewal.proofs.SameLaws.{all_told, walk_same, rest_same}
use Rattle.std.proofs.Common.{rules}
use Rattle.renewal.proofs.all.put_items.Goals as goal

pub loop-i-init : goal.loop-i-init
loop-i-init c =
    (search rules, search rules, search (rules, able_start), search (rules, all_told), search (rules, items_start))

pub put_at-next-requires : goal.put_at-next-requires
put_at-next-requires c = (search (rules, walk_able), search (rules, walk_same), search rules, search (rules, items_room))

pub loop-i-preserved : goal.loop-i-preserved
loop-i-preserved c = (search rules, search rules, search (rules, walk_rest), search (rules, rest_same), search (rules, items_on))

pub returns : goal.returns
returns c = record {
  wrote = search (rules, items_end);
  rooms = search rules;
}
