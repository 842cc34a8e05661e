use Rattle.std.proofs.Common.{rules}
use Rattle.raising.proofs.FrontLaws.{id_nine, feature_put}
use Rattle.raising.proofs.heading.put_feature.Goals as goal

pub put_identity-a-requires : goal.put_identity-a-requires
put_identity-a-requires c = (search rules, search rules, search rules, search (rules, id_nine), search rules)

pub returns : goal.returns
returns c = (search (rules, feature_put), search rules)
