-- A batch of the directory's rows.
use Rattle.std.proofs.Common.{rules, arith}
use Rattle.itemrows.proofs.TakenLaws.{rows_read, rows_within}
use Rattle.itemrows.proofs.plain.rows_of.Goals as goal

pub batch-requires : goal.batch-requires
batch-requires c = (omega arith, (omega arith, (omega arith, search (rules, rows_within))))

pub returns : goal.returns
returns c = search (rules, rows_read)
