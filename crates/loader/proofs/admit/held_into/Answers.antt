-- 20, 21, or the held form, by the plan. Assumes nothing.
use Rattle.std.proofs.Common.{refl, rules}
use Rattle.loader.proofs.AdmitLaws.{many_fail, ready_writing, plan_fails, plan_fits, plan_room, plan_put, plan_total, size_answer, size_area, room_answer, room_area, done_answer, done_area}
use Rattle.loader.proofs.admit.held_into.Goals as goal

pub returns-then-n-gt-MOST_RECORDS : goal.returns-then-n-gt-MOST_RECORDS
returns-then-n-gt-MOST_RECORDS c = record {
  value = search (rules, size_answer, many_fail);
  out_after = search (rules, size_area);
}

pub planned-scheme-requires : goal.planned-scheme-requires
planned-scheme-requires c = search (rules, ready_writing)

pub returns-then-not-plan : goal.returns-then-not-plan
returns-then-not-plan c = record {
  value = search (rules, size_answer, plan_fails);
  out_after = search (rules, size_area);
}

pub returns-then-out-total : goal.returns-then-out-total
returns-then-out-total c = record {
  value = search (rules, room_answer, plan_fits, plan_total);
  out_after = search (rules, room_area);
}

pub put_chart-requires : goal.put_chart-requires
put_chart-requires c = (search (rules, ready_writing), search rules, search (rules, plan_room))

pub returns : goal.returns
returns c = record {
  value = search (rules, done_answer, plan_fits, plan_total);
  out_after = done_area _ _ _ _ _ _ c.answered-2.ensures
      (plan_put _ _ _ c.requires _ _ refl
      c.planned-scheme.ensures.0 c.put_chart.ensures);
}
