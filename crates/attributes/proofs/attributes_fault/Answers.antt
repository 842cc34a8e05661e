use Rattle.std.proofs.Common.{rules}
use Rattle.attributes.proofs.AttributesLaws.{walked_start, walked_end, walked_met, walked_bad, walked_on}
use Rattle.attributes.proofs.PartLaws.{attribute_long}
use Rattle.attributes.proofs.attributes_fault.Goals as goal

pub loop-update-init : goal.loop-update-init
loop-update-init c = (search rules, search rules, search rules, search (rules, walked_start))

pub returns-then-n-eq0 : goal.returns-then-n-eq0
returns-then-n-eq0 c = search (rules, walked_end)

pub label_at-label-requires : goal.label_at-label-requires
label_at-label-requires c = (search (rules, attribute_long), search rules)

pub returns-then-table-label : goal.returns-then-table-label
returns-then-table-label c = search (rules, walked_met)

pub value_good-requires : goal.value_good-requires
value_good-requires c = (search (rules, attribute_long), search rules)

pub returns-then-not-value_good : goal.returns-then-not-value_good
returns-then-not-value_good c = search (rules, walked_bad)

pub loop-update-preserved : goal.loop-update-preserved
loop-update-preserved c = (search rules, search rules, search rules, search (rules, walked_on))
