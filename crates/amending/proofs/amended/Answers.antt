-- A record with a code answers; where none has, the two files may be merged. Assumes nothing.
use Rattle.resultstages.proofs.MergeLaws.{rooms_few, amending_three, amending_two, amending_room, amending_all, amended_refused, amended_on, amended_merging}
use Rattle.answers.proofs.OutcomeLaws.{none_of, some_of}
use Rattle.loader.proofs.AdmitLaws.{filed_area}
use Rattle.std.proofs.Common.{refl, rules}
use Rattle.amending.proofs.amended.Goals as goal

pub overflow_sub-held : goal.overflow_sub-held
overflow_sub-held c = amending_three c.requires.0

pub overflow_sub-half : goal.overflow_sub-half
overflow_sub-half c = amending_two c.requires.0

pub amendments_fault-requires : goal.amendments_fault-requires
amendments_fault-requires c = (
  amending_all c.requires.0 _ _ refl refl,
  amending_room c.requires.0 _ _ refl refl,
  search rules,
  search (rules, rooms_few),
)

pub returns-in-Err : goal.returns-in-Err
returns-in-Err c =
    let p = some_of _ c.amendments_fault.ensures.0 c.in-Err.is in record {
      value = amended_refused c.requires.0 _ _ refl refl _ p.0 _ _ p.1 c.of_refusal.ensures;
      out_after = filed_area _ _ _ _ _ p.1 c.of_refusal.ensures;
    }

pub merged-requires : goal.merged-requires
merged-requires c = (
  amended_merging c.requires.0 _ _ refl refl _ refl (none_of _ c.amendments_fault.ensures.0 c.in_default.is),
  search rules,
)

pub returns : goal.returns
returns c = record {
  value = amended_on c.requires.0 _ _ refl refl _ refl _ _ (none_of _ c.amendments_fault.ensures.0 c.in_default.is) c.merged.ensures.value;
  out_after = c.merged.ensures.out_after;
}
