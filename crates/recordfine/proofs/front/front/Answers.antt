-- Behind a first row that is fine, those of a vector or those of a feature.
use Rattle.recordfine.proofs.FrontLaws.{second_in, behind_start, behind_first, behind_vrid}
use Rattle.std.proofs.Common.{rules}
use Rattle.recordfine.proofs.front.front.Goals as goal

pub returns-then-not-marked : goal.returns-then-not-marked
returns-then-not-marked c = search (rules, behind_start)

pub vrid_fine-requires : goal.vrid_fine-requires
vrid_fine-requires c = (search (rules, second_in), search rules)

pub feature_front-requires : goal.feature_front-requires
feature_front-requires c = search (rules, behind_first)

pub returns : goal.returns
returns c = c.vector_front.ensures _ _ (behind_vrid (search rules) (search (rules, behind_first)) _ c.vrid_fine.ensures (search rules))
