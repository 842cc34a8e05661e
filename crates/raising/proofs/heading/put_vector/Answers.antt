use Rattle.std.proofs.Common.{rules}
use Rattle.raising.proofs.FrontLaws.{id_five, vector_put}
use Rattle.raising.proofs.heading.put_vector.Goals as goal

pub put_identity-requires : goal.put_identity-requires
put_identity-requires c = (search rules, search rules, search rules, search (rules, id_five), search rules)

pub returns : goal.returns
returns c = (search (rules, vector_put), search rules)
