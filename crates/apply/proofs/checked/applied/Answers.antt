-- Work first, then the codes of reading; where there is none, both files are known to be readable. Assumes nothing.
use Rattle.apply.proofs.ApplyLaws.{both_few, both_work, applied_work, applied_read, applied_on, applied_before}
use Rattle.loader.proofs.AdmitLaws.{area_kept, work_area}
use Rattle.std.proofs.Common.{arith, rules}
use Rattle.apply.proofs.checked.applied.Goals as goal

pub overflow_add-n : goal.overflow_add-n
overflow_add-n c = omega (arith, both_few _ _ _ _ c.requires.0 c.requires.1)

pub overflow_mul-n : goal.overflow_mul-n
overflow_mul-n c = omega (arith, both_few _ _ _ _ c.requires.0 c.requires.1)

pub overflow_add-n-then-work-n : goal.overflow_add-n-then-work-n
overflow_add-n-then-work-n c = omega (arith, both_few _ _ _ _ c.requires.0 c.requires.1)

pub overflow_mul-n-then-work-n : goal.overflow_mul-n-then-work-n
overflow_mul-n-then-work-n c = omega (arith, both_few _ _ _ _ c.requires.0 c.requires.1)

pub returns-then-work-n : goal.returns-then-work-n
returns-then-work-n c =
    let opened = c.requires in
    record {
      value = applied_work _ _ _ _ opened.0 opened.1 _ _ _ (search rules) c.answered.ensures;
      out_after = work_area _ _ _ _ c.answered.ensures;
    }

pub both_fault-a-requires : goal.both_fault-a-requires
both_fault-a-requires c = search (rules, both_work)

pub returns-then-code-ne0 : goal.returns-then-code-ne0
returns-then-code-ne0 c =
    let opened = c.requires in
    record {
      value = applied_read _ _ _ _ opened.0 opened.1 _ _ c.both_fault-a.result (search rules) _ c.both_fault-a.ensures.value c.if-code-ne0.true;
      out_after = area_kept _ _ _ c.if-code-ne0.true;
    }

pub changed-requires : goal.changed-requires
changed-requires c =
    let opened = c.requires in
    let none = c.if-code-ne0.false in
    applied_before _ _ _ _ opened.0
    opened.1 _ c.both_fault-a.ensures.value none
    _ (λ i. omega (arith, c.type_inv.cell i))
    (λ i. omega (arith, c.type_inv.update i)) (search rules) (c.both_fault-a.ensures.both_in none)

pub returns : goal.returns
returns c =
    let opened = c.requires in
    record {
      value = applied_on _ _ _ _ opened.0 opened.1 _ _ _ (search rules) _ c.both_fault-a.ensures.value
          c.if-code-ne0.false c.changed.ensures.value;
      out_after = c.changed.ensures.out_after;
    }
