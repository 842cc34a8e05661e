-- The invariant: the rows so far are the definition's.
use Rattle.std.proofs.Common.{length, take, ◌+◌, ◌*◌, ◌≡◌}
use Rattle.iso8211.specs.Directory.{rows, row_width}
use Rattle.iso8211.proofs.directory.batch.Given as goal

abbrev pub invariant-loop-row : goal.invariant-loop-row
invariant-loop-row l = (length l.row-items ≡ l.n) × (l.at ≡ l.i + l.row-index * row_width l.l l.p) × (take l.row-index l.row-items ≡ rows l.row-index l.s l.l l.p l.i)
