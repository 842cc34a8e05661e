-- The levels, and the record that is due behind that of DSID.
use Rattle.readonce.proofs.ItemLaws.{headed_update, headed_cell}
use Rattle.std.proofs.Common.{rules}
use Rattle.readonce.proofs.record.headed.Goals as goal

pub returns-then-update : goal.returns-then-update
returns-then-update c = search (rules, headed_update)

pub returns : goal.returns
returns c = search (rules, headed_cell)
