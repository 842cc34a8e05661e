use Rattle.octets.proofs.DigitsLaws.{digits_none, digits_more, digits_all, ten_less}
use Rattle.std.proofs.Common.{◌≡◌, ◌-◌, sym, refl, div-one, arith}
use Rattle.octets.proofs.digits.put_digits.Goals as goal

pub loop-k-init : goal.loop-k-init
loop-k-init c = (let z : c.args.w - c.args.w ≡ 0 = omega arith in rw z (sym (div-one c.args.v)), digits_none _ _ _ _ c.requires)

pub loop-k-preserved : goal.loop-k-preserved
loop-k-preserved c = (
  ten_less _ _ _ _ c.loop-k-test.true c.loop-k.auto.k c.loop-k.invariant.0,
  digits_more _ _ _ _ _ c.loop-k-test.true c.loop-k.auto.k c.loop-k.invariant.0 refl c.loop-k.invariant.1 c.put1.ensures,
)

pub returns : goal.returns
returns c = digits_all _ _ _ _ c.loop-k-test.false c.loop-k.invariant.1
