-- What was woven is what the judge of the result asks for, and stands for the updated chart. Assumes nothing.
use Rattle.resultstages.proofs.MergeLaws.{merging_three, merging_two, merging_warp, merging_judging, merged_answer, merged_area}
use Rattle.std.proofs.Common.{refl, rules}
use Rattle.resultstages.proofs.merged.merged.Goals as goal

pub overflow_sub-i : goal.overflow_sub-i
overflow_sub-i c = merging_three c.requires.0

pub overflow_sub-j : goal.overflow_sub-j
overflow_sub-j c = merging_two c.requires.0

pub woven-w-requires : goal.woven-w-requires
woven-w-requires c = merging_warp c.requires.0 _ _ refl refl

pub judged_into-requires : goal.judged_into-requires
judged_into-requires c = (
  merging_judging c.requires.0 _ _ refl refl
      c.woven-w.ensures _ refl,
  search rules,
)

pub returns : goal.returns
returns c = record {
  value = merged_answer
      c.requires.0 _ _ refl refl
      c.woven-w.ensures _ refl
      _ _ c.judged_into.ensures.value;
  out_after = merged_area c.requires.0 _ _ refl refl
      c.woven-w.ensures _ refl
      _ _ _ c.judged_into.ensures.out_after;
}
