-- DSID and 1E. Assumes nothing.
use Rattle.fronts.proofs.FrontLaws.{ended}
use Rattle.std.proofs.Common.{rules}
use Rattle.fronts.proofs.front.put_renamed.Goals as goal

pub returns : goal.returns
returns c = search (rules, ended)
