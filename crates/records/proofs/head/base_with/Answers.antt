-- At most eight rows of at most 24 bytes. Assumes nothing.
use Rattle.std.proofs.Common.{arith, rules}
use Rattle.records.proofs.HeadLaws.{base_few}
use Rattle.records.proofs.head.base_with.Goals as goal

pub overflow_mul-result : goal.overflow_mul-result
overflow_mul-result c = omega (arith, base_few c.args.n _ _ c.requires.0 c.requires.1.0 c.requires.1.1)

pub overflow_add-result-3 : goal.overflow_add-result-3
overflow_add-result-3 c = omega (arith, base_few c.args.n _ _ c.requires.0 c.requires.1.0 c.requires.1.1)

pub overflow_cast-result : goal.overflow_cast-result
overflow_cast-result c = omega (arith, base_few c.args.n _ _ c.requires.0 c.requires.1.0 c.requires.1.1)

pub returns : goal.returns
returns c = (search rules, omega (arith, base_few c.args.n _ _ c.requires.0 c.requires.1.0 c.requires.1.1))
