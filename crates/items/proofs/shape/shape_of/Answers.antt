-- The shape by its row of the table.
use Rattle.items.proofs.KindLaws.{shape_is}
use Rattle.std.proofs.Common.{rules}
use Rattle.items.proofs.shape.shape_of.Goals as goal

pub returns : goal.returns
returns c = search (rules, shape_is)
