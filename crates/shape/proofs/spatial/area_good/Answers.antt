-- Each test of the definition in its order.
use Rattle.vectorshape.proofs.ShapeLaws.{reads}
use Rattle.vectorshape.specs.Shape.{area_good}
use Rattle.shape.proofs.spatial.area_good.Goals as goal

pub returns-then-e : goal.returns-then-e
unfolding area_good
returns-then-e c = search reads depth 12

pub returns-then-not-one_or_two : goal.returns-then-not-one_or_two
unfolding area_good
returns-then-not-one_or_two c = search reads depth 12

pub returns-then-usage-eq3 : goal.returns-then-usage-eq3
unfolding area_good
returns-then-usage-eq3 c = search reads depth 12

pub returns-then-not-one_or_two-2 : goal.returns-then-not-one_or_two-2
unfolding area_good
returns-then-not-one_or_two-2 c = search reads depth 12

pub returns : goal.returns
unfolding area_good
returns c = search reads depth 12
