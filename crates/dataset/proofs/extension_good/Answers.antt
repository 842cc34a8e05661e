-- By the kind of file.
use Rattle.dataset.specs.Dsid.{extension_good}
use Rattle.dataset.proofs.extension_good.Goals as goal

pub returns-then-update : goal.returns-then-update
unfolding extension_good
returns-then-update c = cc

pub returns-else-update : goal.returns-else-update
unfolding extension_good
returns-else-update c = cc
