-- The FOID that is read is the one that is looked up.
use Rattle.quickfeatures.proofs.LnamLaws.{lnam_told}
use Rattle.std.proofs.Common.{rules}
use Rattle.quickfeatures.proofs.lnams.lnam_held.Goals as goal

pub returns : goal.returns
returns c = search (rules, lnam_told)
