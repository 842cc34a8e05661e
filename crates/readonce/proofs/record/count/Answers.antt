-- Before the first item nothing is counted; from it on a feature or a vector, as RCNM tells.
use Rattle.std.proofs.Common.{arith, rules}
use Rattle.readonce.proofs.ItemLaws.{known_long, feature_long, counted_early, counted_feature, counted_vector}
use Rattle.readonce.proofs.record.count.Goals as goal

pub returns-then-k-first : goal.returns-then-k-first
returns-then-k-first c = search (rules, counted_early)

pub get1-rcnm-requires : goal.get1-rcnm-requires
get1-rcnm-requires c = let long = known_long c.requires.1 (c.requires.2 c.if-k-first.false) in omega arith

pub overflow_add-id : goal.overflow_add-id
overflow_add-id c =
    let long = feature_long _ _ _ _ c.requires.1 c.get1-rcnm.ensures c.if-rcnm-eq100.true
    (c.requires.2 c.if-k-first.false) in
    omega arith

pub get2-requires : goal.get2-requires
get2-requires c = feature_long _ _ _ _ c.requires.1 c.get1-rcnm.ensures c.if-rcnm-eq100.true
    (c.requires.2 c.if-k-first.false)

pub returns-then-rcnm-eq100 : goal.returns-then-rcnm-eq100
returns-then-rcnm-eq100 c = search (rules, counted_feature)

pub returns : goal.returns
returns c = search (rules, counted_vector)
