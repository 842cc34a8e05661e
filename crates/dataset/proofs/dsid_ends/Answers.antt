-- Every call answers its part of the definition; the whole is their composition.
use Rattle.dataset.specs.Dsid.{dsid_ends}
use Rattle.dataset.proofs.dsid_ends.Goals as goal

pub returns : goal.returns
unfolding dsid_ends
returns c = cc
