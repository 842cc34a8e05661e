use Rattle.octets.proofs.Tests.{tests}
use Rattle.edits.specs.Control.{allowed}
use Rattle.splice.proofs.control.acts_on.Goals as goal
use Rattle.splice.proofs.control.acts_on.Goals.{then-c-ge1, else-c-ge1}

pub returns-then-brought-come : goal.returns-then-brought-come
unfolding allowed
returns-then-brought-come c = rw (← c.come_of-come.ensures) (search tests)

pub returns-else-brought-come : goal.returns-else-brought-come
unfolding allowed
returns-else-brought-come c = rw (← c.come_of-come.ensures) (elim c.if-c-ge1.branch [ then-c-ge1 w ↦ search tests | else-c-ge1 w ↦ search tests ])
