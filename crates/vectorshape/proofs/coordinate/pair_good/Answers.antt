-- Y beyond its limit ends it, else X decides.
use Rattle.vectorshape.proofs.ShapeLaws.{pair_no, pair_is}
use Rattle.std.proofs.Common.{rules}
use Rattle.vectorshape.proofs.coordinate.pair_good.Goals as goal

pub returns-then-degree-y : goal.returns-then-degree-y
returns-then-degree-y c = search (rules, pair_no)

pub returns : goal.returns
returns c = search (rules, pair_is)
