-- The ways through, each by its law.
use Rattle.vectorshape.proofs.ShapeLaws.{feature_none, feature_bare, feature_drawn, feature_few, feature_all}
use Rattle.items.proofs.KindLaws.{fspt_list}
use Rattle.std.proofs.Common.{rules}
use Rattle.shape.proofs.feature.feature_good.Goals as goal

pub returns-then-not-collection : goal.returns-then-not-collection
returns-then-not-collection c = search (rules, feature_none)

pub count-requires : goal.count-requires
count-requires c = search (rules, fspt_list)

pub returns-then-prim-eq255 : goal.returns-then-prim-eq255
returns-then-prim-eq255 c = search (rules, feature_bare)

pub returns-then-collection : goal.returns-then-collection
returns-then-collection c = search (rules, feature_drawn)

pub count-requires-2 : goal.count-requires-2
count-requires-2 c = search (rules, fspt_list)

pub returns-then-not-spatial_count : goal.returns-then-not-spatial_count
returns-then-not-spatial_count c = search (rules, feature_few)

pub spatials_good-requires : goal.spatials_good-requires
spatials_good-requires c = search (rules, fspt_list)

pub returns : goal.returns
returns c = search (rules, feature_all)
