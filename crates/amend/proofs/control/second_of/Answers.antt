use Rattle.std.proofs.Common.{rules}
use Rattle.amend.proofs.RuleLaws.{second_feature, second_vector}
use Rattle.amend.proofs.control.second_of.Goals as goal

pub returns-then-rcnm-eq100 : goal.returns-then-rcnm-eq100
returns-then-rcnm-eq100 c = (search (rules, second_feature), search rules)

pub returns : goal.returns
returns c = (search (rules, second_vector), search rules)
