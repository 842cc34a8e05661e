-- Both places are those of the definition; the test is its test.
use Rattle.fieldparts.proofs.DescriptiveLaws.{cut_some, cut_none}
use Rattle.std.proofs.Common.{rules}
use Rattle.fieldparts.proofs.descriptive.cut.Goals as goal

pub returns-then-labels-field : goal.returns-then-labels-field
returns-then-labels-field c = search (rules, cut_some)

pub returns-else-labels-field : goal.returns-else-labels-field
returns-else-labels-field c = search (rules, cut_none)
