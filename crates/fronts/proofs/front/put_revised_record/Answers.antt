-- The opening, the result's DSID, DSSI, one behind the other. Assumes nothing.
use Rattle.fronts.proofs.FrontLaws.{lent_known, revised_opening_room, revised_named_room, revised_counts_room, revised_record_put}
use Rattle.std.proofs.Common.{rules}
use Rattle.fronts.proofs.front.put_revised_record.Goals as goal

pub revised_size-size-requires : goal.revised_size-size-requires
revised_size-size-requires c = (search (rules, lent_known), search (rules, lent_known))

pub put_opening-a-requires : goal.put_opening-a-requires
put_opening-a-requires c = (search rules, search (rules, revised_opening_room))

pub put_renamed-b-requires : goal.put_renamed-b-requires
put_renamed-b-requires c = (search (rules, lent_known), search (rules, lent_known), search (rules, revised_named_room))

pub put_counts-requires : goal.put_counts-requires
put_counts-requires c = (search rules, search (rules, revised_counts_room))

pub returns : goal.returns
returns c = search (rules, revised_record_put)
