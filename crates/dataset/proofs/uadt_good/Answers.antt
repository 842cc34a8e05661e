-- By the kind of file.
use Rattle.dataset.specs.Dsid.{uadt_good}
use Rattle.dataset.proofs.uadt_good.Goals as goal

pub returns-then-update : goal.returns-then-update
unfolding uadt_good
returns-then-update c = cc

pub returns-else-update : goal.returns-else-update
unfolding uadt_good
returns-else-update c = cc
