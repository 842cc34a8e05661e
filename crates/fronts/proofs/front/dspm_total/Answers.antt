-- Rows and fields by the length of DSPM alone. Assumes nothing.
use Rattle.fronts.proofs.FrontLaws.{dspm_sized}
use Rattle.std.proofs.Common.{rules}
use Rattle.fronts.proofs.front.dspm_total.Goals as goal

pub returns : goal.returns
returns c = (search (rules, dspm_sized), search rules)
