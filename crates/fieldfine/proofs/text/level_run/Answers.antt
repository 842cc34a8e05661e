use Rattle.std.proofs.Common.{rules}
use Rattle.fieldfine.proofs.TextLaws.{run_start, level_on, level_fits}
use Rattle.fieldfine.proofs.text.level_run.Goals as goal

pub loop-i-init : goal.loop-i-init
loop-i-init g c = (search rules, λ high up. run_start high _ _)

pub loop-i-preserved : goal.loop-i-preserved
loop-i-preserved g c = (
  level_fits _ _ c.requires.0 c.loop-i.invariant.1 c.loop-i.invariant.0 c.is_text.ensures c.loop-i-test.true,
  level_on _ _ c.requires.0 c.loop-i.invariant.1 c.loop-i.invariant.0 c.is_text.ensures c.loop-i-test.true,
)
