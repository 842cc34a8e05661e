-- By the test of t.
use Rattle.std.proofs.Common.{arith, rules}
use Rattle.itemrows.proofs.RowLaws.{bytes_no, bytes_some}
use Rattle.itemrows.proofs.rows.bytes_for.Goals as goal

pub returns-then-t-eq0 : goal.returns-then-t-eq0
returns-then-t-eq0 c = (search (rules, bytes_no), omega arith)

pub returns : goal.returns
returns c = (search (rules, bytes_some), omega arith)
