use Rattle.std.proofs.Common.{rules}
use Rattle.raising.proofs.FrontLaws.{id_within, identity_put}
use Rattle.raising.proofs.heading.put_identity.Goals as goal

pub put_lead-a-requires : goal.put_lead-a-requires
put_lead-a-requires c = (search (rules, id_within), search rules)

pub returns : goal.returns
returns c = (search (rules, identity_put), search rules)
