use Rattle.fieldparts.proofs.DescriptiveLaws.{found_here, found_later, found_none}
use Rattle.std.proofs.Common.{arith, rules}
use Rattle.fieldparts.proofs.descriptive.separator.Goals as goal

pub returns-then-field-i-eq31 : goal.returns-then-field-i-eq31
returns-then-field-i-eq31 c = (search (rules, found_here), search rules)

pub loop-i-preserved : goal.loop-i-preserved
loop-i-preserved c = (search rules, search (rules, found_later))

pub returns : goal.returns
returns c = (found_none _ _ _ c.loop-i.invariant.1 c.loop-i-test.false (omega arith), search rules)
