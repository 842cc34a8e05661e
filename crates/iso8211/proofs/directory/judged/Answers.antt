use Rattle.std.proofs.Common.{refl, arith, rules}
use Rattle.iso8211.proofs.DirectoryLaws.{rowing_start, rowing_bad, rowing_on, rowing_end, step_most}
use Rattle.iso8211.proofs.directory.judged.Goals as goal

pub loop-k-init : goal.loop-k-init
loop-k-init c = (omega arith, rowing_start _ _ _ _ _)

pub returns-in_err-at : goal.returns-in_err-at
returns-in_err-at c = rw c.from_residual.ensures (rowing_bad _ c.loop-k.invariant.1 c.loop-k-test.true (omega arith) refl refl
    c.field_step.ensures (search rules))

pub loop-k-preserved : goal.loop-k-preserved
loop-k-preserved c = (
  step_most c.field_step.ensures (search rules),
  rowing_on _ c.loop-k.invariant.1 c.loop-k-test.true (omega arith) refl refl
      c.field_step.ensures (search rules),
)

pub returns : goal.returns
returns c = rowing_end _ c.args.n _ (omega arith) c.loop-k.invariant.0 c.loop-k.invariant.1
