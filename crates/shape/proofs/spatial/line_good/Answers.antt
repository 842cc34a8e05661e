-- Each test of the definition in its order.
use Rattle.octets.proofs.Tests.{chain}
use Rattle.vectorshape.specs.Shape.{line_good}
use Rattle.shape.proofs.spatial.line_good.Goals as goal

pub returns-then-e : goal.returns-then-e
unfolding line_good
returns-then-e c = search chain depth 12

pub returns-then-not-one_or_two : goal.returns-then-not-one_or_two
unfolding line_good
returns-then-not-one_or_two c = search chain depth 12

pub returns-then-e-2 : goal.returns-then-e-2
unfolding line_good
returns-then-e-2 c = search chain depth 12

pub returns : goal.returns
unfolding line_good
returns c = search chain depth 12
