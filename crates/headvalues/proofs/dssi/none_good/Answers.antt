-- By the kind of file.
use Rattle.headvalues.specs.Dssi.{none_good}
use Rattle.headvalues.proofs.dssi.none_good.Goals as goal

pub returns-then-update : goal.returns-then-update
unfolding none_good
returns-then-update c = cc

pub returns-else-update : goal.returns-else-update
unfolding none_good
returns-else-update c = cc
