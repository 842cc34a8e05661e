-- By the length of DSID. Assumes nothing.
use Rattle.fronts.proofs.FrontLaws.{lent_known, dsid_sized}
use Rattle.std.proofs.Common.{rules}
use Rattle.fronts.proofs.front.dsid_total.Goals as goal

pub dsid_size-size-requires : goal.dsid_size-size-requires
dsid_size-size-requires c = search (rules, lent_known)

pub returns : goal.returns
returns c = search (rules, dsid_sized)
