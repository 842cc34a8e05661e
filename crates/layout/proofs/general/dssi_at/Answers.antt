-- DSSI is field 2, and its levels are there.
use Rattle.layout.proofs.GeneralLaws.{dssi_start, dssi_room}
use Rattle.std.proofs.Common.{rules}
use Rattle.layout.proofs.general.dssi_at.Goals as goal

pub returns : goal.returns
returns c = (search (rules, dssi_start), search (rules, dssi_room))
