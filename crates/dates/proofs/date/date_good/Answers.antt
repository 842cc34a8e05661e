-- Every call answers its part of the definition; the whole is their composition.
use Rattle.dates.specs.Date.{date_good}
use Rattle.dates.proofs.date.date_good.Goals as goal

pub returns : goal.returns
unfolding date_good
returns c = cc
