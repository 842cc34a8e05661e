-- Each is a digit, or there is no number.
use Rattle.std.proofs.Common.{arith, rules}
use Rattle.octets.proofs.WidthLaws.{three_few, three_so}
use Rattle.octets.proofs.widths.three_digits.Goals as goal

pub overflow_mul-result : goal.overflow_mul-result
overflow_mul-result c = omega (arith, three_few c.digit-a.result c.digit-b.result c.digit-c.result c.if-a-b.false)

pub overflow_mul-result-2 : goal.overflow_mul-result-2
overflow_mul-result-2 c = omega (arith, three_few c.digit-a.result c.digit-b.result c.digit-c.result c.if-a-b.false)

pub overflow_add-result : goal.overflow_add-result
overflow_add-result c = omega (arith, three_few c.digit-a.result c.digit-b.result c.digit-c.result c.if-a-b.false)

pub overflow_add-result-2 : goal.overflow_add-result-2
overflow_add-result-2 c = omega (arith, three_few c.digit-a.result c.digit-b.result c.digit-c.result c.if-a-b.false)

pub returns : goal.returns
returns c = search (rules, three_so)
