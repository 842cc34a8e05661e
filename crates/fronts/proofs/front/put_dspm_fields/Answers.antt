-- 0001 and DSPM, one behind the other. Assumes nothing.
use Rattle.fronts.proofs.FrontLaws.{dspm_put}
use Rattle.std.proofs.Common.{rules}
use Rattle.fronts.proofs.front.put_dspm_fields.Goals as goal

pub returns : goal.returns
returns c = search (rules, dspm_put)
