-- Past the table, 0001; else the row in its one number, which is computed for all rows at once.
use Rattle.std.proofs.Common.{refl, sym, rules}
use Rattle.table.specs.Table.{table, row_of}
use Rattle.table.specs.Widths.{same}
use Rattle.table.proofs.TableLaws.{kind_past, row_held, rows_hold, same_kind}
use Rattle.table.proofs.kind_row.Goals as goal

pub returns-then-k-ge-FIRST : goal.returns-then-k-ge-FIRST
unfolding row_of table
returns-then-k-ge-FIRST c = sym (kind_past c.args.k (search rules))

pub returns : goal.returns
unfolding row_of table rows_hold same_kind same
returns c = row_held c.picked-row.ensures refl (search rules)
