-- Every call answers its part of the definition; the whole is their composition.
use Rattle.headvalues.specs.Dspm.{dspm_laid}
use Rattle.headvalues.proofs.dspm.dspm_laid.Goals as goal

pub returns : goal.returns
unfolding dspm_laid
returns c = cc
