use Rattle.std.proofs.Common.{rules}
use Rattle.amend.proofs.RuleLaws.{kinds_feature, kinds_vector, feature_four, vector_four}
use Rattle.amend.proofs.plan.kinds_of.Goals as goal

pub returns-then-rcnm-eq100 : goal.returns-then-rcnm-eq100
returns-then-rcnm-eq100 c = (search (rules, kinds_feature), feature_four)

pub returns : goal.returns
returns c = (search (rules, kinds_vector), vector_four)
