-- Work first, then the refusals of both, then the name. Assumes nothing.
use Rattle.std.proofs.Common.{arith, rules}
use Rattle.readboth.proofs.CallLaws.{few}
use Rattle.show.proofs.CallLaws.{pair_work, pair_filed, pair_on, pair_listed}
use Rattle.show.proofs.call.pair.Goals as goal

pub overflow_add-n : goal.overflow_add-n
overflow_add-n c = omega (arith, few c.requires.0, few c.requires.1)

pub overflow_mul-n : goal.overflow_mul-n
overflow_mul-n c = omega (arith, few c.requires.0, few c.requires.1)

pub overflow_add-n-then-work-n : goal.overflow_add-n-then-work-n
overflow_add-n-then-work-n c = omega (arith, few c.requires.0, few c.requires.1)

pub overflow_mul-n-then-work-n : goal.overflow_mul-n-then-work-n
overflow_mul-n-then-work-n c = omega (arith, few c.requires.0, few c.requires.1)

pub returns-then-work-n : goal.returns-then-work-n
returns-then-work-n c = search (rules, pair_work)

pub returns-then-code-ne0 : goal.returns-then-code-ne0
returns-then-code-ne0 c = search (rules, pair_filed)

pub both_sight-requires : goal.both_sight-requires
both_sight-requires c =
    let short = c.requires in
    pair_listed _ _ _ _ _ _ c.both_fault-a.ensures.value (search rules) short.0 short.1 (search rules) (c.both_fault-a.ensures.both_in (search rules))

pub returns : goal.returns
returns c = search (rules, pair_on)
