-- The four parts of a sum.
use Rattle.std.proofs.Common.{arith, rules}
use Rattle.itemrows.specs.Joined.{fields_of}
use Rattle.itemrows.proofs.RowLaws.{sum_four}
use Rattle.itemrows.proofs.rows.count_of.Goals as goal

pub returns : goal.returns
returns c = (search (rules, sum_four fields_of), omega arith)
