-- Work first, then the refusal of codes 4 to 8, then the name. Assumes nothing.
use Rattle.std.proofs.Common.{arith, rules}
use Rattle.readboth.proofs.CallLaws.{few}
use Rattle.show.proofs.CallLaws.{alone_work, alone_filed, alone_on, alone_listed}
use Rattle.show.proofs.call.alone.Goals as goal

pub overflow_mul-n : goal.overflow_mul-n
overflow_mul-n c = omega (arith, few c.requires)

pub overflow_mul-n-then-work-n : goal.overflow_mul-n-then-work-n
overflow_mul-n-then-work-n c = omega (arith, few c.requires)

pub returns-then-work-n : goal.returns-then-work-n
returns-then-work-n c = search (rules, alone_work)

pub returns-in-Err : goal.returns-in-Err
returns-in-Err c = search (rules, alone_filed)

pub cell_sight-requires : goal.cell_sight-requires
cell_sight-requires c =
    alone_listed _ _ _ c.cell_fault.ensures.value c.in_default.is c.requires (search rules) (c.cell_fault.ensures.held_in c.in_default.is)

pub returns : goal.returns
returns c = search (rules, alone_on)
