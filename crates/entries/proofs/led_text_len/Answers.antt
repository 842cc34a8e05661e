use Rattle.entries.proofs.TextLaws.{turn_out, turn_end, turn_on}
use Rattle.std.proofs.Common.{rules}
use Rattle.entries.proofs.led_text_len.Goals as goal

pub returns-then-ends_at : goal.returns-then-ends_at
returns-then-ends_at c = search (rules, turn_end)

pub loop-i-preserved : goal.loop-i-preserved
loop-i-preserved c = (search rules, search rules, search (rules, turn_on))

pub returns : goal.returns
returns c = search (rules, turn_out)
