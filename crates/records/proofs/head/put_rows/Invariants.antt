-- The invariant: of all rows those from this one on are left to be written. Assumes nothing.
use Rattle.records.specs.Written.{rows_bytes}
use Rattle.octets.specs.Area.{Going}
use Rattle.std.proofs.Common.{drop}
use Rattle.records.proofs.head.put_rows.Given as goal

abbrev pub invariant-loop-row : goal.invariant-loop-row
invariant-loop-row l = Going l.initial.out l.at (rows_bytes l.l l.p l.row-items) l.out l.next (rows_bytes l.l l.p (drop l.row-index l.row-items))
