use Rattle.resultitems.proofs.PlacesLaws.{walk_able, walk_rest}
use Rattle.resultitems.proofs.AllLaws.{able_start, counted_start, counted_on, counted_end}
use Rattle.renewal.proofs.SameLaws.{same_start, same_on, same_end}
use Rattle.std.proofs.Common.{rules}
use Rattle.renewal.proofs.all.measure.Goals as goal

pub loop-i-init : goal.loop-i-init
loop-i-init c = (
  search rules,
  search rules,
  search rules,
  search (rules, able_start),
  search (rules, counted_start),
  search (rules, same_start),
)

pub size_at-one-requires : goal.size_at-one-requires
size_at-one-requires c = (search (rules, walk_able), search rules)

pub loop-i-preserved : goal.loop-i-preserved
loop-i-preserved c = (
  search rules,
  search rules,
  search rules,
  search (rules, walk_rest),
  search (rules, counted_on),
  search (rules, same_on),
)

pub returns : goal.returns
returns c = record {
  all_sized = search (rules, counted_end);
  told = search (rules, same_end);
  rooms = search rules;
}
