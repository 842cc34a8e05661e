use Rattle.std.proofs.Common.{arith}
use Rattle.reader.proofs.FrontLaws.{opened_broken, opened_past, opened_next, opened_all}
use Rattle.reader.proofs.front.opened_from.Goals as goal

pub loop-at-init : goal.loop-at-init
loop-at-init c = c.requires.0

pub returns-in_default : goal.returns-in_default
returns-in_default c = opened_broken c.loop-at.invariant c.loop-at-test.true _ _ c.requires.1 c.in_default.ensures.0 c.answered.ensures

pub overflow_add-k : goal.overflow_add-k
overflow_add-k c = let below = c.loop-at.invariant.below in let fits = c.loop-at.invariant.fits in omega arith

pub loop-at-smaller : goal.loop-at-smaller
loop-at-smaller c = omega (arith, opened_past c.loop-at.invariant c.loop-at-test.true _ c.in-Some.ensures.0)

pub loop-at-preserved : goal.loop-at-preserved
loop-at-preserved c = opened_next c.loop-at.invariant c.loop-at-test.true _ c.in-Some.ensures.0 c.in-Some.ensures.1

pub returns : goal.returns
returns c = opened_all _ c.loop-at.invariant c.loop-at-test.false c.requires.1
