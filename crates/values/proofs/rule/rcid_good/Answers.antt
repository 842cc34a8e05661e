-- Every call answers its part of the definition; the whole is their composition.
use Rattle.values.specs.Rule.{rcid_good}
use Rattle.values.proofs.rule.rcid_good.Goals as goal

pub returns : goal.returns
unfolding rcid_good
returns c = cc
