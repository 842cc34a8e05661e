-- By RCNM: a vector's nodes, or a feature's relations and then its spatial records.
use Rattle.items.proofs.KindLaws.{ffpt_list}
use Rattle.pointer.proofs.PointerLaws.{named, vector_code, feature_related, feature_spatial}
use Rattle.std.proofs.Common.{rules}
use Rattle.pointer.proofs.pointer_code.Goals as goal

pub names_code-requires : goal.names_code-requires
names_code-requires c = search (rules, named)

pub returns-then-rcnm_of-ne100 : goal.returns-then-rcnm_of-ne100
returns-then-rcnm_of-ne100 c = search (rules, vector_code)

pub lnams_code-related-requires : goal.lnams_code-related-requires
lnams_code-related-requires c = search (rules, ffpt_list)

pub returns-then-related-ne0 : goal.returns-then-related-ne0
returns-then-related-ne0 c = search (rules, feature_related)

pub names_code-requires-2 : goal.names_code-requires-2
names_code-requires-2 c = search (rules, named)

pub returns : goal.returns
returns c = search (rules, feature_spatial)
