-- Refused at once, or applied to the end. Assumes nothing.
use Rattle.apply.proofs.ApplyLaws.{second_refused, second_kept, area_applied}
use Rattle.judging.proofs.JudgeLaws.{told_count}
use Rattle.std.proofs.Common.{rules}
use Rattle.apply.proofs.update_opened.Goals as goal

pub applied-requires : goal.applied-requires
applied-requires c = (
  c.requires,
  told_count 2 _ _ _ c.opened.ensures (search rules),
)

pub returns-in-Err : goal.returns-in-Err
returns-in-Err c =
    let front = c.requires in
    let second = c.opened.ensures in
    record {
      value = second_refused _ _ _ front _ second _ (search rules) _ _;
      out_after = second_kept _ _ _ front _ second c.in-Err.a (search rules) _ _;
    }

pub returns-in-Ok : goal.returns-in-Ok
returns-in-Ok c =
    let second = told_count 2 _ _ c.in-Ok.m
    c.opened.ensures (search rules) in record {
      value = c.applied.ensures.value;
      out_after = area_applied _ _ _ _ c.requires
          second _ _ _ _ c.applied.ensures.value c.applied.ensures.out_after;
    }
