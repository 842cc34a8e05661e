-- The work area is cleared behind the answer. Assumes nothing.
use Rattle.std.proofs.Common.{ℕ, ap, ◌∙◌, replicate}
use Rattle.apply.proofs.apply.Goals as goal

pub returns : goal.returns
returns c =
    record {
      value = c.applied_once-a.ensures.value;
      out_after = c.applied_once-a.ensures.out_after;
      work_after = c.clear.ensures ∙ ap (λ (k : ℕ). replicate k 0) c.applied_once-a.auto.work;
    }
