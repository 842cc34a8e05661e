-- The part is lent, so that what stands before it stays.
use Rattle.readboth.proofs.BothLaws.{update_placed, part_front}
use Rattle.std.proofs.Common.{rules}
use Rattle.readboth.proofs.both.update_from.Goals as goal

pub returns : goal.returns
returns c = record {
  value = search rules;
  n_after = (λ z. update_placed _ _ _ _ c.requires.1 c.update_fault.auto.work
      _ (c.update_fault.ensures.come_in z));
  work_unchanged = part_front _ c.update_fault.new.work _ _ c.requires.1 c.update_fault.auto.work;
}
