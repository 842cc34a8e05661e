-- RCNM tells which of the two it is.
use Rattle.std.proofs.Common.{rules}
use Rattle.counted.proofs.CountsLaws.{read_feature, add_feature_told, add_vector_told}
use Rattle.counted.proofs.counts.add.Goals as goal

pub objl_of-requires : goal.objl_of-requires
objl_of-requires c = (search rules, search (rules, read_feature))

pub returns-then-rcnm-eq100 : goal.returns-then-rcnm-eq100
returns-then-rcnm-eq100 c = search (rules, add_feature_told)

pub returns : goal.returns
returns c = search (rules, add_vector_told)
