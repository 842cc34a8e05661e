-- Its FSPT first, then its LNAM.
use Rattle.quickfeatures.proofs.FeatureLaws.{drawn_no, prim_room, objl_room, feature_drawn}
use Rattle.std.proofs.Common.{rules}
use Rattle.quickfeatures.proofs.feature_quick.Goals as goal

pub overflow_add-id : goal.overflow_add-id
overflow_add-id c = search (rules, prim_room)

pub get1-prim-requires : goal.get1-prim-requires
get1-prim-requires c = search (rules, prim_room)

pub overflow_add-id-2 : goal.overflow_add-id-2
overflow_add-id-2 c = search (rules, objl_room)

pub get2-requires : goal.get2-requires
get2-requires c = search (rules, objl_room)

pub returns-then-not-spatials_quick : goal.returns-then-not-spatials_quick
returns-then-not-spatials_quick c = search (rules, drawn_no)

pub returns : goal.returns
returns c = search (rules, feature_drawn)
