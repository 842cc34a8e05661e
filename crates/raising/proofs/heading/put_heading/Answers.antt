use Rattle.std.proofs.Common.{rules}
use Rattle.raising.proofs.FrontLaws.{heading_room, heading_put}
use Rattle.raising.proofs.heading.put_heading.Goals as goal

pub put_head-requires : goal.put_head-requires
put_head-requires c = (search rules, (search rules, search (rules, heading_room)))

pub returns : goal.returns
returns c = (search (rules, heading_put), search rules)
