-- Refused at once, or applied stage by stage. Assumes nothing.
use Rattle.apply.proofs.ApplyLaws.{first_refused, first_kept}
use Rattle.judging.proofs.JudgeLaws.{told_count}
use Rattle.std.proofs.Common.{rules}
use Rattle.apply.proofs.applied_again.Goals as goal

pub update_opened-requires : goal.update_opened-requires
update_opened-requires c = told_count 1 _ _ _ c.opened.ensures (search rules)

pub returns-in-Err : goal.returns-in-Err
returns-in-Err c = record {
  value = first_refused _ _ _ c.opened.ensures _ (search rules) _ _;
  out_after = first_kept _ _ _ c.opened.ensures c.in-Err.a (search rules) _ _;
}
