-- The invariant: the rows so far and those of the lists that are left are all rows.
use Rattle.std.proofs.Common.{length}
use Rattle.itemrows.proofs.RowLaws.{Listing}
use Rattle.itemrows.proofs.rows.list_rows.Given as goal

abbrev pub invariant-loop-tag : goal.invariant-loop-tag
invariant-loop-tag l = Listing l.initial.out l.n l.due l.fn.tags l.fn.totals l.out l.m l.d (length l.yielded)
