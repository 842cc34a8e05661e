use Rattle.std.proofs.Common.{rules}
use Rattle.amend.proofs.ControlLaws.{control_room, control_none, control_some, control_given}
use Rattle.amend.proofs.control.control_of.Goals as goal

pub put-requires : goal.put-requires
put-requires c = (search rules, search (rules, control_room))

pub returns-then-put-eq0 : goal.returns-then-put-eq0
returns-then-put-eq0 c = (search (rules, control_none), search rules)

pub returns : goal.returns
returns c = (search (rules, control_some), search (rules, control_given))
