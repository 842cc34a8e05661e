-- The opening, DSID, DSSI, one behind the other. Assumes nothing.
use Rattle.fronts.proofs.FrontLaws.{lent_known, dsid_opening_room, dsid_named_room, dsid_counts_room, dsid_record_put}
use Rattle.std.proofs.Common.{rules}
use Rattle.fronts.proofs.front.put_dsid_record.Goals as goal

pub dsid_size-size-requires : goal.dsid_size-size-requires
dsid_size-size-requires c = search (rules, lent_known)

pub put_opening-a-requires : goal.put_opening-a-requires
put_opening-a-requires c = (search rules, search (rules, dsid_opening_room))

pub put_named-b-requires : goal.put_named-b-requires
put_named-b-requires c = (search (rules, lent_known), search (rules, dsid_named_room))

pub put_counts-requires : goal.put_counts-requires
put_counts-requires c = (search rules, search (rules, dsid_counts_room))

pub returns : goal.returns
returns c = search (rules, dsid_record_put)
