-- Work first, then the refusal of codes 4 to 8.
use Rattle.std.proofs.Common.{arith}
use Rattle.readboth.proofs.CallLaws.{few, checked_work, checked_told}
use Rattle.readboth.proofs.read.cell_checked.Goals as goal

pub overflow_mul-n : goal.overflow_mul-n
overflow_mul-n c = omega (arith, few c.requires)

pub overflow_mul-n-then-work-n : goal.overflow_mul-n-then-work-n
overflow_mul-n-then-work-n c = omega (arith, few c.requires)

pub returns-then-work-n : goal.returns-then-work-n
returns-then-work-n c = checked_work _ _ _ _ c.if-work-n.true c.answered.ensures

pub cell_fault-requires : goal.cell_fault-requires
cell_fault-requires c = record { framed = c.requires.framed; short = c.requires.short; room = omega arith }

pub returns : goal.returns
returns c = checked_told _ _ _ _ c.if-work-n.false c.cell_fault.ensures.value c.answer_of.ensures
