-- By whether the shape is good.
use Rattle.vectorshape.proofs.ShapeLaws.{code_good, code_bad}
use Rattle.std.proofs.Common.{rules}
use Rattle.shape.proofs.shape_code.Goals as goal

pub returns-then-shape_good : goal.returns-then-shape_good
returns-then-shape_good c = search (rules, code_good)

pub returns : goal.returns
returns c = search (rules, code_bad)
