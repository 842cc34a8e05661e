-- The rank is that of the record's class.
use Rattle.resultcounts.proofs.TallyLaws.{ranked_feature, with_feature_lem, with_vector_lem}
use Rattle.std.proofs.Common.{rules}
use Rattle.resultcounts.proofs.tally.add_record.Goals as goal

pub objl_of-requires : goal.objl_of-requires
objl_of-requires c = (search rules, search (rules, ranked_feature))

pub returns-then-rank-eq3 : goal.returns-then-rank-eq3
returns-then-rank-eq3 c = search (rules, with_feature_lem)

pub returns : goal.returns
returns c = search (rules, with_vector_lem)
