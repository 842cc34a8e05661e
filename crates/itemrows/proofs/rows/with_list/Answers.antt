-- By the test of t: no row, or one set behind the others.
use Rattle.std.proofs.Common.{arith, length-set, rules}
use Rattle.itemrows.proofs.RowLaws.{row_no, row_one}
use Rattle.itemrows.proofs.rows.with_list.Goals as goal

pub returns-then-t-eq0 : goal.returns-then-t-eq0
returns-then-t-eq0 c = (omega arith, search (rules, row_no))

pub returns : goal.returns
returns c = (simp length-set (omega arith), row_one _ _ _ _ _ (search rules) (omega arith))
