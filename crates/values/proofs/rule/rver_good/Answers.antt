-- Every call answers its part of the definition; the whole is their composition.
use Rattle.values.specs.Rule.{rver_good}
use Rattle.values.proofs.rule.rver_good.Goals as goal

pub returns : goal.returns
unfolding rver_good
returns c = cc
