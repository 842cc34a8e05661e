use Rattle.std.proofs.Common.{arith, refl}
use Rattle.octets.proofs.DigitsLaws.{digits_start, turn_off, turn_on, turn_small, digits_end, led_more}
use Rattle.octets.proofs.digits.get_digits.Goals as goal

pub loop-b-init : goal.loop-b-init
loop-b-init c = (omega arith, digits_start _ _ _)

pub returns-then-not-is_ascii_digit : goal.returns-then-not-is_ascii_digit
returns-then-not-is_ascii_digit c = turn_off _ _ _ _ _ _ c.requires.1 c.loop-b-test.true c.loop-b.invariant.1 refl c.if-not-is_ascii_digit.ensures.cases

pub overflow_mul-led : goal.overflow_mul-led
overflow_mul-led c = omega (arith, turn_small _ _ _ _ _ _ c.requires.1 c.loop-b-test.true c.loop-b.invariant.1 refl c.requires.0 c.loop-b.invariant.0)

pub overflow_add-led : goal.overflow_add-led
overflow_add-led c =
    omega (arith, c.if-not-is_ascii_digit.ensures.cases, turn_small _ _ _ _ _ _ c.requires.1 c.loop-b-test.true c.loop-b.invariant.1 refl c.requires.0 c.loop-b.invariant.0)

pub loop-b-preserved : goal.loop-b-preserved
loop-b-preserved c = rw c.wide.ensures.0 (
  led_more _ _ _ c.loop-b.invariant.0 c.if-not-is_ascii_digit.ensures.cases.1,
  turn_on _ _ _ _ _ _ c.requires.1 c.loop-b-test.true c.loop-b.invariant.1 refl c.if-not-is_ascii_digit.ensures.cases,
)

pub returns : goal.returns
returns c = digits_end _ _ _ _ _ c.requires.1 c.loop-b-test.false c.loop-b.auto.b-index-end c.loop-b.invariant.0 c.requires.0 c.loop-b.invariant.1
