-- The records in front, then those of the items. Assumes nothing.
use Rattle.reissue.proofs.PlanLaws.{dsid_in_lem, dspm_in, dsid_framed, front_room, items_room, chart_put}
use Rattle.std.proofs.Common.{rules}
use Rattle.reissue.proofs.write.put_chart.Goals as goal

pub record_end-second-requires : goal.record_end-second-requires
record_end-second-requires c = search (rules, dsid_framed)

pub put_front-next-requires : goal.put_front-next-requires
put_front-next-requires c = (search (rules, dsid_in_lem), search (rules, dspm_in), search (rules, front_room))

pub put_rest-requires : goal.put_rest-requires
put_rest-requires c = (search rules, search rules, search (rules, items_room))

pub returns : goal.returns
returns c = search (rules, chart_put)
