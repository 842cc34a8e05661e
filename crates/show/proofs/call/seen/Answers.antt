-- The work area is cleared behind what is seen. Assumes nothing.
use Rattle.std.proofs.Common.{replicate, ap, ◌∙◌, ℕ}
use Rattle.show.proofs.call.seen.Goals as goal

pub returns : goal.returns
returns c = record {
  value = c.with_cell-sight.ensures;
  work_after = c.clear.ensures ∙ ap (λ (k : ℕ). replicate k 0) c.with_cell-sight.auto.work;
}
