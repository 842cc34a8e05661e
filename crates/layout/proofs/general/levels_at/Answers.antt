-- The second and the third byte of DSSI.
use Rattle.layout.proofs.GeneralLaws.{aall_told, nall_told}
use Rattle.std.proofs.Common.{rules}
use Rattle.layout.proofs.general.levels_at.Goals as goal

pub returns : goal.returns
returns c = (search (rules, aall_told), search (rules, nall_told))
