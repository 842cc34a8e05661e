-- Rows and fields by the length of DSID alone. Assumes nothing.
use Rattle.fronts.proofs.FrontLaws.{total_of}
use Rattle.std.proofs.Common.{rules}
use Rattle.fronts.proofs.front.total_of.Goals as goal

pub returns : goal.returns
returns c = search (rules, total_of)
