-- Each test is one of the definition's; what passes them is repeated.
use Rattle.std.proofs.Common.{arith, rules}
use Rattle.formats.proofs.FormatsLaws.{few_times, join_none, join_zero, join_over, join_long, join_all}
use Rattle.formats.proofs.join.Goals as goal
use Rattle.formats.proofs.join.Goals.{then-times-lt1-via-then-times-lt1, then-times-lt1-via-else-times-lt1+then-times-gt99}

pub returns-then-part-eq0 : goal.returns-then-part-eq0
returns-then-part-eq0 c = search (rules, join_none)

pub returns-then-times-lt1 : goal.returns-then-times-lt1
returns-then-times-lt1 c =
    elim c.then-times-lt1.branch [
      | then-times-lt1-via-then-times-lt1 w ↦ search (rules, join_zero)
      | then-times-lt1-via-else-times-lt1+then-times-gt99 w ↦ search (rules, join_over)
    ]

pub overflow_mul-k : goal.overflow_mul-k
overflow_mul-k c = omega (
  arith,
  few_times c.args.times c.args.part.count (omega arith)
      (omega arith),
)

pub overflow_add-led : goal.overflow_add-led
overflow_add-led c = omega (
  arith,
  few_times c.args.times c.args.part.count
      (omega arith) (omega arith),
)

pub returns-then-led-k-gt32 : goal.returns-then-led-k-gt32
returns-then-led-k-gt32 c = search (rules, join_long)

pub returns : goal.returns
returns c = search (rules, join_all)
