use Rattle.std.proofs.Common.{arith, rules}
use Rattle.formats.proofs.FormatsLaws.{short_zero, short_start, short_ends, short_more, short_full, led_below, led_grows}
use Rattle.formats.proofs.short.Goals as goal

pub returns-then-digit-eq0 : goal.returns-then-digit-eq0
returns-then-digit-eq0 c = search (rules, short_zero)

pub loop-n-init : goal.loop-n-init
loop-n-init c = (search rules, search rules, search (rules, short_start))

pub returns-then-d-gt9 : goal.returns-then-d-gt9
returns-then-d-gt9 c = search (rules, short_ends)

pub overflow_mul-led : goal.overflow_mul-led
overflow_mul-led c = omega (arith, led_below _ _ c.loop-n.invariant.1 (omega arith))

pub overflow_add-led : goal.overflow_add-led
overflow_add-led c = omega (arith, led_below _ _ c.loop-n.invariant.1 (omega arith))

pub loop-n-preserved : goal.loop-n-preserved
loop-n-preserved c = (search rules, search (rules, led_grows), search (rules, short_more))

pub returns : goal.returns
returns c = search (rules, short_full)
