-- DSPM stands behind DSID.
use Rattle.revisedfront.proofs.FrontLaws.{fronts_found}
use Rattle.std.proofs.Common.{rules}
use Rattle.revisedfront.proofs.front.fronts_of.Goals as goal

pub returns : goal.returns
returns c = search (rules, fronts_found)
