-- The work area is cleared behind the answer.
use Rattle.std.proofs.Common.{ℕ, ap, ◌∙◌, replicate}
use Rattle.loader.proofs.admit.admit.Goals as goal

pub returns : goal.returns
returns c =
    record {
      value = c.admitted-a.ensures.value;
      out_after = c.admitted-a.ensures.out_after;
      work_after = c.clear.ensures ∙ ap (λ (k : ℕ). replicate k 0) c.admitted-a.auto.work;
    }
