-- By the class of the record.
use Rattle.listingrows.proofs.ListingLaws.{attributes_feature, attributes_vector}
use Rattle.items.proofs.KindLaws.{attv_list, attf_list, natf_list}
use Rattle.std.proofs.Common.{rules}
use Rattle.listingrows.proofs.row.attributes.Goals as goal

pub both_sizes-requires : goal.both_sizes-requires
both_sizes-requires c = search (rules, attf_list, natf_list)

pub returns-then-rcnm-eq-FEATURE : goal.returns-then-rcnm-eq-FEATURE
returns-then-rcnm-eq-FEATURE c = (search (rules, attributes_feature), search rules)

pub count-requires : goal.count-requires
count-requires c = search (rules, attv_list)

pub returns : goal.returns
returns c = (search (rules, attributes_vector), search rules)
