use Rattle.std.proofs.Common.{◌≡◌, length, drop}
use Rattle.items.specs.Item.{item_at}
use Rattle.edits.specs.Lists.{lists_allowed}
use Rattle.changes.specs.Change.{amendment_at, edit_of}
use Rattle.amend.specs.Sides.{Areas}
use Rattle.allowed.proofs.rule.four_allowed.Given as goal

abbrev pub invariant-loop-i : goal.invariant-loop-i
invariant-loop-i l =
    Areas l.join l.table × (length l.join ≡ length l.initial.join) × (length l.table ≡ length l.initial.table) × (length l.room ≡ length l.initial.room)
    × (lists_allowed l.kinds (edit_of (amendment_at l.update.record.file.now l.update.record.at)) (item_at l.cell.record.file.now l.cell.record.at).lists
    ≡ lists_allowed (drop l.i l.kinds) (edit_of (amendment_at l.update.record.file.now l.update.record.at)) (item_at l.cell.record.file.now l.cell.record.at).lists)
