-- Shape first; then of an area its LNAMs and its edges, of anything else Pointer alone.
use Rattle.items.proofs.KindLaws.{ffpt_list, fspt_list}
use Rattle.topology.proofs.TopologyLaws.{feature_told, item_shape, item_vector, item_other, item_related, item_rings}
use Rattle.std.proofs.Common.{rules}
use Rattle.topology.proofs.judged_code.Goals as goal

pub returns-then-shape-ne0 : goal.returns-then-shape-ne0
returns-then-shape-ne0 c = search (rules, item_shape)

pub returns-then-rcnm_of-ne100 : goal.returns-then-rcnm_of-ne100
returns-then-rcnm_of-ne100 c = search (rules, item_vector)

-- the search finds the class among too many numbers, so the law is given it
pub prim_of-requires : goal.prim_of-requires
prim_of-requires c = (search rules, feature_told _ _ _ (search rules) c.rcnm_of.ensures.0 c.if-rcnm_of-ne100.false)

pub returns-then-prim_of-ne3 : goal.returns-then-prim_of-ne3
returns-then-prim_of-ne3 c = search (rules, item_other)

pub lnams_code-related-requires : goal.lnams_code-related-requires
lnams_code-related-requires c = search (rules, ffpt_list)

pub returns-then-related-ne0 : goal.returns-then-related-ne0
returns-then-related-ne0 c = search (rules, item_related)

pub area_code-requires : goal.area_code-requires
area_code-requires c = search (rules, fspt_list)

pub returns : goal.returns
returns c = search (rules, item_rings)
