-- The head by the rows, then 0001. Assumes nothing.
use Rattle.fronts.proofs.FrontLaws.{opening_head, opening_first, opening_put}
use Rattle.std.proofs.Common.{rules}
use Rattle.fronts.proofs.front.put_opening.Goals as goal

pub put_head-a-requires : goal.put_head-a-requires
put_head-a-requires c = (search rules, (search rules, search (rules, opening_head)))

pub put_number-requires : goal.put_number-requires
put_number-requires c = search (rules, opening_first)

pub returns : goal.returns
returns c = search (rules, opening_put)
