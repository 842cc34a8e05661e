-- The area is cleared behind the verdict.
use Rattle.std.proofs.Common.{ℕ, ap, ◌∙◌, replicate}
use Rattle.judging.proofs.judge.judge.Goals as goal

pub returns : goal.returns
returns c = record {
  value = c.judged-a.ensures;
  work_after = c.clear.ensures ∙ ap (λ (k : ℕ). replicate k 0)
      c.judged-a.auto.work;
}
