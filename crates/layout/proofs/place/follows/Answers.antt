-- The code is the definition, the rows in hand being the table's.
use Rattle.layout.specs.Layout.{follows}
use Rattle.layout.proofs.place.follows.Goals as goal

pub returns : goal.returns
unfolding follows
returns c = rw (c.kind_row-before.ensures, c.kind_row-row.ensures)
