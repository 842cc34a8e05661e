-- By the passes, or by what reads the files again. Assumes nothing.
use Rattle.std.proofs.Common.{arith, rules}
use Rattle.apply.proofs.ApplyLaws.{read_all, once_ready, once_applied, apply_along}
use Rattle.apply.proofs.applied_once.Goals as goal

pub changed-requires : goal.changed-requires
changed-requires c =
    once_ready (read_all {n = c.in-Some.n} {m = c.in-Some.m} _
    c.both_once.ensures (search rules))
    (λ i. omega (arith, c.type_inv.cell i))
    (λ i. omega (arith, c.type_inv.update i))

pub returns-in-Some : goal.returns-in-Some
returns-in-Some c =
    let so = read_all {n = c.in-Some.n}
    {m = c.in-Some.m} _
    c.both_once.ensures (search rules) in
    record {
      value = (once_applied _ _ _ _ so c.both_once.auto.work
          (c.changed.ensures.value, c.changed.ensures.out_after)).0;
      out_after = (once_applied _ _ _ _ so c.both_once.auto.work
          (c.changed.ensures.value, c.changed.ensures.out_after)).1;
    }

pub returns-in-None : goal.returns-in-None
returns-in-None c = record {
  value = (apply_along _ _ _ c.both_once.auto.work
      (c.applied_again.ensures.value, c.applied_again.ensures.out_after)).0;
  out_after = (apply_along _ _ _ c.both_once.auto.work
      (c.applied_again.ensures.value, c.applied_again.ensures.out_after)).1;
}
