use Rattle.std.proofs.Common.{arith}
use Rattle.std.proofs.lemmas.Int.{ints}
use Rattle.vectorshape.specs.Shape.{magnitude}
use Rattle.vectorshape.proofs.coordinate.magnitude_of.Goals as goal

pub returns : goal.returns
unfolding magnitude
returns c = grind (arith, ints)
