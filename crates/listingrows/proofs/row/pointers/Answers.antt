-- By the class of the record.
use Rattle.listingrows.proofs.ListingLaws.{pointers_feature, pointers_vector}
use Rattle.items.proofs.KindLaws.{vrpt_list, ffpt_list, fspt_list}
use Rattle.std.proofs.Common.{rules}
use Rattle.listingrows.proofs.row.pointers.Goals as goal

pub both_sizes-requires : goal.both_sizes-requires
both_sizes-requires c = search (rules, ffpt_list, fspt_list)

pub returns-then-rcnm-eq-FEATURE : goal.returns-then-rcnm-eq-FEATURE
returns-then-rcnm-eq-FEATURE c = (search (rules, pointers_feature), search rules)

pub count-requires : goal.count-requires
count-requires c = search (rules, vrpt_list)

pub returns : goal.returns
returns c = (search (rules, pointers_vector), search rules)
