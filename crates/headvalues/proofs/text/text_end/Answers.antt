use Rattle.std.proofs.Common.{arith, rules}
use Rattle.headvalues.proofs.TextLaws.{end_past, end_here, end_on}
use Rattle.headvalues.proofs.text.text_end.Goals as goal

pub returns-then-s-i-eq31 : goal.returns-then-s-i-eq31
returns-then-s-i-eq31 c = (search (rules, end_here), search rules, search rules)

pub loop-i-preserved : goal.loop-i-preserved
loop-i-preserved c = (search rules, search (rules, end_on))

pub returns : goal.returns
returns c = (end_past _ _ _ c.loop-i.invariant.1 c.loop-i-test.false (omega arith), search rules, search rules)
