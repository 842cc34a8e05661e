-- Three writers, one after the other.
use Rattle.std.proofs.Common.{rules}
use Rattle.itemrows.proofs.PlanLaws.{number_room, lead_room, lead_put, lead_end}
use Rattle.itemrows.proofs.lead.put_lead.Goals as goal

pub put1-b-requires : goal.put1-b-requires
put1-b-requires c = search (rules, number_room)

pub copy-requires : goal.copy-requires
copy-requires c = search (rules, lead_room)

pub returns : goal.returns
returns c = (search (rules, lead_put), search (rules, lead_end))
