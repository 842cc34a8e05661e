-- The invariant: the answer for all rows is the answer for those that are left.
use Rattle.std.proofs.Common.{◌≤◌, ◌+◌, ◌*◌, length}
use Rattle.iso8211.specs.Directory.{rows, row_width}
use Rattle.iso8211.specs.Record.{in_row}
use Rattle.iso8211.proofs.RecordLaws.{Left}
use Rattle.iso8211.proofs.record.fields_good.Given as goal

abbrev pub invariant-loop-left : goal.invariant-loop-left
invariant-loop-left l = (l.due ≤ l.size) × (l.at + l.left * row_width l.l l.p ≤ length l.s)
    × Left l.s l.l l.p l.body l.size (in_row l.s l.body l.size (rows l.count l.s l.l l.p l.i) 0) l.left l.at l.due

abbrev pub decreases-loop-left : goal.decreases-loop-left
decreases-loop-left l = l.left
