use Rattle.amend.specs.Sides.{Areas}
use Rattle.rebuild.proofs.PuttingLaws.{Putting}
use Rattle.rebuild.proofs.record.put_edited_lists.Given as goal

abbrev pub invariant-loop-i : goal.invariant-loop-i
invariant-loop-i l = Putting l.cell.record.file.now l.cell.record.at l.update.record.file.now l.update.record.at l.fn.plan.kinds
    l.initial.room l.room l.next l.totals l.i × Areas l.join l.table
