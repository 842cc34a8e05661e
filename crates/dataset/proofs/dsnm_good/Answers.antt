-- Every call answers its part of the definition; the whole is their composition.
use Rattle.dataset.specs.Dsid.{dsnm_good}
use Rattle.dataset.proofs.dsnm_good.Goals as goal

pub returns : goal.returns
unfolding dsnm_good
returns c = cc
