-- By RCNM: a feature or a vector.
use Rattle.vectorshape.proofs.ShapeLaws.{reads, feature_told, class_told}
use Rattle.vectorshape.specs.Shape.{shape_good}
use Rattle.std.proofs.Common.{rules}
use Rattle.shape.proofs.shape_good.Goals as goal

pub feature_good-requires : goal.feature_good-requires
feature_good-requires c = search (rules, feature_told, class_told)

pub returns-then-rcnm_of-eq100 : goal.returns-then-rcnm_of-eq100
unfolding shape_good
returns-then-rcnm_of-eq100 c = search reads depth 12

pub returns : goal.returns
unfolding shape_good
returns c = search reads depth 12
