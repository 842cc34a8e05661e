use Rattle.std.proofs.Common.{arith, refl}
use Rattle.octets.proofs.DigitsLaws.{digits_start, turn, sure_small, sure_more, sure_on, sure_end}
use Rattle.octets.proofs.digits.sure_digits.Goals as goal

pub loop-b-init : goal.loop-b-init
loop-b-init c = (omega arith, digits_start _ _ _)

pub overflow_mul-led : goal.overflow_mul-led
overflow_mul-led c = omega (arith, sure_small _ _ _ _ _ _ c.requires c.loop-b-test.true c.loop-b.invariant.1 refl c.loop-b.invariant.0)

pub overflow_sub-led : goal.overflow_sub-led
overflow_sub-led c = omega (arith, turn _ _ _ _ _ _ c.requires c.loop-b-test.true c.loop-b.invariant.1 refl)

pub overflow_add-led : goal.overflow_add-led
overflow_add-led c =
    let digit = turn _ _ _ _ _ _ c.requires c.loop-b-test.true c.loop-b.invariant.1 refl in
    omega (arith, digit, sure_small _ _ _ _ _ _ c.requires c.loop-b-test.true c.loop-b.invariant.1 refl c.loop-b.invariant.0)

pub loop-b-preserved : goal.loop-b-preserved
loop-b-preserved c = rw c.wide.ensures.0 (
  sure_more _ _ _ _ _ _ c.requires c.loop-b-test.true c.loop-b.invariant.1 refl c.loop-b.invariant.0,
  sure_on _ _ _ _ _ _ c.requires c.loop-b-test.true c.loop-b.invariant.1 refl,
)

pub returns : goal.returns
returns c = sure_end _ _ _ _ _ c.requires c.loop-b-test.false c.loop-b.invariant.1
