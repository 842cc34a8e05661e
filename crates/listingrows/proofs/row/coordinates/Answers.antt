-- By the class of the record.
use Rattle.listingrows.proofs.ListingLaws.{coordinates_feature, coordinates_vector}
use Rattle.items.proofs.KindLaws.{sg2d_list, sg3d_list}
use Rattle.std.proofs.Common.{rules}
use Rattle.listingrows.proofs.row.coordinates.Goals as goal

pub returns-then-rcnm-eq-FEATURE : goal.returns-then-rcnm-eq-FEATURE
returns-then-rcnm-eq-FEATURE c = (search (rules, coordinates_feature), search rules)

pub both_sizes-requires : goal.both_sizes-requires
both_sizes-requires c = search (rules, sg2d_list, sg3d_list)

pub returns : goal.returns
returns c = (search (rules, coordinates_vector), search rules)
