use Rattle.merge.proofs.MarksLaws.{marking_start, marking_stands, marking_on, marking_done}
use Rattle.std.proofs.Common.{rules}
use Rattle.merge.proofs.marks.mark_deletes.Goals as goal

pub loop-i-init : goal.loop-i-init
loop-i-init c = search (rules, marking_start)

pub with_ruin-w-requires : goal.with_ruin-w-requires
with_ruin-w-requires c = search (rules, marking_stands)

pub loop-i-preserved : goal.loop-i-preserved
loop-i-preserved c = search (rules, marking_on)

pub returns : goal.returns
returns c = search (rules, marking_done)
