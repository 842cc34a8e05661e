-- The cell, then the update behind its words.
use Rattle.readboth.proofs.BothLaws.{first_cell, first_update, both_none, both_words}
use Rattle.std.proofs.Common.{rules}
use Rattle.readboth.proofs.both.both_fault.Goals as goal

pub returns-in-Err : goal.returns-in-Err
returns-in-Err c = record { value = search (rules, first_cell); both_in = search (rules, both_none) }

pub returns : goal.returns
returns c = record {
  value = search (rules, first_update);
  both_in = both_words _ _ _ _ _ _ _ _ (search rules) (search rules) (c.cell_from.ensures.n_after c.in_default.is) c.update_from.ensures.work_unchanged
      _ c.update_from.ensures.value c.update_from.ensures.n_after c.answer_of.ensures;
}
