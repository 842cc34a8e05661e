-- The code is the definition.
use Rattle.layout.specs.Layout.{may_end}
use Rattle.layout.proofs.place.may_end.Goals as goal

pub returns : goal.returns
unfolding may_end
returns c = cc
