use Rattle.std.proofs.Common.{rules}
use Rattle.amend.proofs.RuleLaws.{first_feature, first_vector}
use Rattle.amend.proofs.control.first_of.Goals as goal

pub returns-then-rcnm-eq100 : goal.returns-then-rcnm-eq100
returns-then-rcnm-eq100 c = (search (rules, first_feature), search rules)

pub returns : goal.returns
returns c = (search (rules, first_vector), search rules)
