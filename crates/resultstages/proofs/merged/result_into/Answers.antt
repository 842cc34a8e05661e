-- 20, 21, or the held form, by the plan. Assumes nothing.
use Rattle.loader.proofs.AdmitLaws.{size_answer, size_area, room_answer, room_area, done_answer, done_area}
use Rattle.resultstages.proofs.ResultLaws.{many_fail, renewing, plan_fails, plan_fits, plan_total, plan_room}
use Rattle.std.proofs.Common.{rules}
use Rattle.resultstages.proofs.merged.result_into.Goals as goal

pub returns-then-count-gt65533 : goal.returns-then-count-gt65533
returns-then-count-gt65533 c = record {
  value = search (rules, size_answer, many_fail);
  out_after = search (rules, size_area);
}

pub planned-scheme-requires : goal.planned-scheme-requires
planned-scheme-requires c = (search (rules, renewing), search rules)

pub returns-then-not-plan : goal.returns-then-not-plan
returns-then-not-plan c = record {
  value = search (rules, size_answer, plan_fails);
  out_after = search (rules, size_area);
}

pub returns-then-out-total : goal.returns-then-out-total
returns-then-out-total c = record {
  value = search (rules, room_answer, plan_fits, plan_total);
  out_after = search (rules, room_area);
}

pub put_result-requires : goal.put_result-requires
put_result-requires c = (search (rules, renewing), search rules, search rules, search (rules, plan_room))

pub returns : goal.returns
returns c = record {
  value = search (rules, done_answer, plan_fits, plan_total);
  out_after = search (rules, done_area);
}
