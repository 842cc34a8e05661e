-- By the two cases. Assumes nothing.
use Rattle.show.proofs.SightLaws.{shown_in, shown_part_lem, denied_part}
use Rattle.show.proofs.PlaceLaws.{shown_place_lem, denied_there, denied_place}
use Rattle.std.proofs.Common.{rules}
use Rattle.show.proofs.sight.sight_part.Goals as goal

pub returns-in_default : goal.returns-in_default
returns-in_default c = record {
  result_value = search (rules, denied_part);
  ref_ptr_value = denied_place _ _ _ _ (search (rules, denied_there)) (search rules) (search rules);
}

pub lent-requires : goal.lent-requires
lent-requires c = search (rules, shown_in)

pub returns : goal.returns
returns c = record {
  result_value = search (rules, shown_part_lem);
  ref_ptr_value = search (rules, shown_place_lem);
}
