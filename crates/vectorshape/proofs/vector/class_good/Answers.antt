-- By the class.
use Rattle.vectorshape.proofs.ShapeLaws.{reads}
use Rattle.vectorshape.specs.Shape.{class_good}
use Rattle.vectorshape.proofs.vector.class_good.Goals as goal

pub returns-then-rcnm-eq110 : goal.returns-then-rcnm-eq110
unfolding class_good
returns-then-rcnm-eq110 c = search reads depth 12

pub returns-then-rcnm-eq120 : goal.returns-then-rcnm-eq120
unfolding class_good
returns-then-rcnm-eq120 c = search reads depth 12

pub returns : goal.returns
unfolding class_good
returns c = search reads depth 12
