-- Two records of one class are both features, or neither is.
use Rattle.allowed.proofs.IdentityLaws.{same_vector, same_feature, here_featured, there_featured}
use Rattle.std.proofs.Common.{rules}
use Rattle.allowed.proofs.identity.identity_same.Goals as goal

pub returns-then-rcnm_of-ne100 : goal.returns-then-rcnm_of-ne100
returns-then-rcnm_of-ne100 c = search (rules, same_vector)

pub features_same-requires : goal.features_same-requires
features_same-requires c = search (rules, here_featured, there_featured)

pub returns : goal.returns
returns c = search (rules, same_feature)
