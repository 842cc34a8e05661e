-- Each is a digit, or there is no number.
use Rattle.std.proofs.Common.{arith, rules}
use Rattle.octets.proofs.WidthLaws.{two_few, two_so}
use Rattle.octets.proofs.widths.two_digits.Goals as goal

pub overflow_mul-result : goal.overflow_mul-result
overflow_mul-result c = omega (arith, two_few c.digit-a.result c.digit-b.result c.if-a-b.false)

pub overflow_add-result : goal.overflow_add-result
overflow_add-result c = omega (arith, two_few c.digit-a.result c.digit-b.result c.if-a-b.false)

pub returns : goal.returns
returns c = search (rules, two_so)
