-- Work first, then the cell, then the update.
use Rattle.std.proofs.Common.{arith, rules}
use Rattle.readboth.proofs.CallLaws.{few, both_work}
use Rattle.readboth.proofs.BothLaws.{both_opened, checked_both}
use Rattle.readboth.proofs.read.both_checked.Goals as goal

pub overflow_add-n : goal.overflow_add-n
overflow_add-n c = omega (arith, few c.requires.0, few c.requires.1)

pub overflow_mul-n : goal.overflow_mul-n
overflow_mul-n c = omega (arith, few c.requires.0, few c.requires.1)

pub overflow_add-n-then-work-n : goal.overflow_add-n-then-work-n
overflow_add-n-then-work-n c = omega (arith, few c.requires.0, few c.requires.1)

pub overflow_mul-n-then-work-n : goal.overflow_mul-n-then-work-n
overflow_mul-n-then-work-n c = omega (arith, few c.requires.0, few c.requires.1)

pub returns-then-work-n : goal.returns-then-work-n
returns-then-work-n c = search (rules, both_work)

pub both_fault-requires : goal.both_fault-requires
both_fault-requires c = search (rules, both_opened)

pub returns : goal.returns
returns c = search (rules, checked_both)
