-- The code is the definition, the row in hand being the table's.
use Rattle.layout.specs.Layout.{opens}
use Rattle.layout.proofs.place.opens.Goals as goal

pub returns : goal.returns
unfolding opens
returns c = rw c.kind_row-row.ensures
