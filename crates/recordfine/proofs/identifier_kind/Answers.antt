-- Each way out is one row of the table, found by computing.
use Rattle.std.proofs.Common.{sym}
use Rattle.table.specs.Text.{bytes}
use Rattle.table.specs.Table.{table, kind_of, among, as_number}
use Rattle.recordfine.proofs.identifier_kind.Goals as goal

pub returns-then-tag-eq-VRID : goal.returns-then-tag-eq-VRID
unfolding kind_of among table as_number bytes
returns-then-tag-eq-VRID c = sym (rw c.if-tag-eq-VRID.true)

pub returns-then-tag-eq-FRID : goal.returns-then-tag-eq-FRID
unfolding kind_of among table as_number bytes
returns-then-tag-eq-FRID c = sym (rw c.if-tag-eq-FRID.true)
