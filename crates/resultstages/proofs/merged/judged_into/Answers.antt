-- The topology first: a code of it answers, and the output stays; else the result goes on to be written. Assumes nothing.
use Rattle.answers.proofs.OutcomeLaws.{none_of, some_of}
use Rattle.loader.proofs.AdmitLaws.{filed_area}
use Rattle.resultstages.proofs.ResultLaws.{judged_refused, judged_on, judged_area, judging_laid}
use Rattle.std.proofs.Common.{refl, rules}
use Rattle.resultstages.proofs.merged.judged_into.Goals as goal

pub returns-in-Err : goal.returns-in-Err
returns-in-Err c =
    let p = some_of _ c.result_fault.ensures.value c.in-Err.is in record {
      value = judged_refused _ _ _ _ _ _ _ c.requires.0 _ c.comf_of-comf.ensures.0 _ p.0 _ _ p.1 c.of_refusal.ensures;
      out_after = filed_area _ _ _ _ _ p.1 c.of_refusal.ensures;
    }

pub result_into-requires : goal.result_into-requires
result_into-requires c = (search (rules, judging_laid), search rules)

pub returns : goal.returns
returns c = record {
  value = judged_on
      _ _ _ _ _ _ _ c.requires.0
      _ c.comf_of-comf.ensures.0
      _ refl _ _ (none_of _ c.result_fault.ensures.value c.in_default.is)
      _ c.result_into.ensures.value (search rules);
  out_after = judged_area _ _ _ _ _ _ _ c.requires.0
      _ c.comf_of-comf.ensures.0
      _ refl _ _ (none_of _ c.result_fault.ensures.value c.in_default.is)
      _ c.result_into.ensures.value
      (search rules) _ _ c.result_into.ensures.out_after;
}
