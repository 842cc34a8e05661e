-- The part is lent, so that what stands before it stays.
use Rattle.readboth.proofs.BothLaws.{cell_placed}
use Rattle.std.proofs.Common.{rules}
use Rattle.readboth.proofs.both.cell_from.Goals as goal

pub returns : goal.returns
returns c = record {
  value = search rules;
  n_after = λ z. cell_placed _ _ _ _ c.requires.1
      c.cell_fault.auto.work _ (c.cell_fault.ensures.held_in z);
}
