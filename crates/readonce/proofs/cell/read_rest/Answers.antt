-- Work first, then the codes of the records.
use Rattle.std.proofs.Common.{arith}
use Rattle.readonce.proofs.CellLaws.{opened_few, opened_passed, told_work, told_filed, told_read}
use Rattle.readonce.proofs.cell.read_rest.Goals as goal

pub overflow_mul-n : goal.overflow_mul-n
overflow_mul-n c = omega (arith, opened_few _ _ c.requires.1)

pub overflow_mul-n-then-work-n : goal.overflow_mul-n-then-work-n
overflow_mul-n-then-work-n c = omega (arith, opened_few _ _ c.requires.1)

pub returns-then-work-n : goal.returns-then-work-n
returns-then-work-n c = told_work _ _ c.requires.1 _ _ c.if-work-n.true c.answered.ensures

pub rest_fault-requires : goal.rest_fault-requires
rest_fault-requires c = opened_passed _ _ c.requires.1 c.requires.0 c.if-work-n.false

pub returns-in-Err : goal.returns-in-Err
returns-in-Err c = told_filed _ _ c.requires.1 _ c.if-work-n.false c.rest_fault.ensures.value _ c.in-Err.is c.of_refusal.ensures

pub returns : goal.returns
returns c = told_read _ _ c.requires.1 _ c.if-work-n.false c.rest_fault.ensures.value c.rest_fault.auto.work c.in_default.is c.rest_fault.ensures.held_in
