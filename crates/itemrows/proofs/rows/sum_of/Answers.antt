-- The four parts of a sum, each of a list that is no longer than a record.
use Rattle.std.proofs.Common.{arith, rules}
use Rattle.itemrows.specs.Joined.{bytes_for}
use Rattle.itemrows.proofs.RowLaws.{sum_four}
use Rattle.itemrows.proofs.rows.sum_of.Goals as goal

pub bytes_for-requires : goal.bytes_for-requires
bytes_for-requires c = c.requires.each 0

pub bytes_for-requires-2 : goal.bytes_for-requires-2
bytes_for-requires-2 c = c.requires.each 1

pub bytes_for-requires-3 : goal.bytes_for-requires-3
bytes_for-requires-3 c = c.requires.each 2

pub bytes_for-requires-4 : goal.bytes_for-requires-4
bytes_for-requires-4 c = c.requires.each 3

pub returns : goal.returns
returns c = (search (rules, sum_four bytes_for), omega arith)
