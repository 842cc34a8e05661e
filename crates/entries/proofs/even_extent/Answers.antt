-- As many entries as a division says; what it leaves is less than one.
use Rattle.std.proofs.Common.{div-le_self, div-mul-le_self, arith, length, rules}
use Rattle.entries.proofs.PlaceLaws.{even_extent}
use Rattle.entries.proofs.even_extent.Goals as goal

pub overflow_mul-result : goal.overflow_mul-result
overflow_mul-result c = omega (arith, div-mul-le_self (length c.args.b.now) c.args.sh.fixed)

pub returns : goal.returns
returns c = (search (rules, even_extent), div-mul-le_self _ _, div-le_self _ _)
