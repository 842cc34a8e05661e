use Rattle.std.proofs.Common.{rules}
use Rattle.amend.proofs.SidesLaws.{sides_second, sides_put}
use Rattle.amend.proofs.lists.put_sides.Goals as goal

pub put-all-requires : goal.put-all-requires
put-all-requires c = (search rules, search (rules, sides_second))

pub returns : goal.returns
returns c = search (rules, sides_put)
