-- A part of the file that the span names. Assumes nothing.
use Rattle.show.proofs.SightLaws.{update_inside, cell_inside, update_lent, cell_lent}
use Rattle.show.proofs.PlaceLaws.{update_place, cell_place}
use Rattle.std.proofs.Common.{rules}
use Rattle.show.proofs.span.lent.Goals as goal

pub part-requires : goal.part-requires
part-requires c = search (rules, update_inside)

pub returns-then-span : goal.returns-then-span
returns-then-span c = record {
  result_value = search (rules, update_lent);
  ref_ptr_value = search (rules, update_place);
}

pub part-requires-2 : goal.part-requires-2
part-requires-2 c = search (rules, cell_inside)

pub returns : goal.returns
returns c = record {
  result_value = search (rules, cell_lent);
  ref_ptr_value = search (rules, cell_place);
}
