-- The ways of a feature, then those of a vector.
use Rattle.items.proofs.KindLaws.{attv_list, attf_list, natf_list}
use Rattle.octets.proofs.Tests.{chain}
use Rattle.allowed.proofs.BroughtLaws.{insert_feature, insert_vector, insert_bare}
use Rattle.std.proofs.Common.{rules}
use Rattle.allowed.proofs.brought.insert_allowed.Goals as goal

pub returns-then-not-no_control : goal.returns-then-not-no_control
returns-then-not-no_control c = search (chain, insert_feature) depth 12

pub all_kept-requires : goal.all_kept-requires
all_kept-requires c = search (rules, attf_list)

pub returns-then-not-all_kept : goal.returns-then-not-all_kept
returns-then-not-all_kept c = search (chain, insert_feature) depth 12

pub all_kept-requires-then-rcnm_of-eq100 : goal.all_kept-requires-then-rcnm_of-eq100
all_kept-requires-then-rcnm_of-eq100 c = search (rules, natf_list)

pub returns-then-rcnm_of-eq100 : goal.returns-then-rcnm_of-eq100
returns-then-rcnm_of-eq100 c = search (chain, insert_feature) depth 12

pub returns-then-lacks : goal.returns-then-lacks
returns-then-lacks c = search (rules, insert_bare)

pub returns-then-not-no_control-2 : goal.returns-then-not-no_control-2
returns-then-not-no_control-2 c = search (chain, insert_vector) depth 12

pub all_kept-requires-2 : goal.all_kept-requires-2
all_kept-requires-2 c = search (rules, attv_list)

pub returns : goal.returns
returns c = search (chain, insert_vector) depth 12
