-- The end of the part less its start is its size. Assumes nothing.
use Rattle.show.proofs.SightLaws.{part_same}
use Rattle.show.proofs.PlaceLaws.{part_place}
use Rattle.std.proofs.Common.{rules}
use Rattle.show.proofs.span.part.Goals as goal

pub returns : goal.returns
returns c = record {
  result_value = search (rules, part_same);
  ref_ptr_value = part_place _ _ _ (search rules) (search rules);
}
