-- Two zeros and three digits, or all five.
use Rattle.recordfine.proofs.DigitLaws.{five_small}
use Rattle.std.proofs.Common.{arith, rules}
use Rattle.recordfine.proofs.open.size_at.Goals as goal

pub returns-then-get2-eq12336 : goal.returns-then-get2-eq12336
returns-then-get2-eq12336 c = five_small _ (λ k. omega (arith, c.type_inv.s k)) c.get2.ensures (search rules) c.get_digits.ensures
