-- The leader first, then its numbers, then what they must say.
use Rattle.std.proofs.Common.{arith, rules}
use Rattle.recordfine.proofs.OpenLaws.{opened_not, opened_so, led_so}
use Rattle.recordfine.proofs.open.opened.Goals as goal

pub returns-then-not-leader_good : goal.returns-then-not-leader_good
returns-then-not-leader_good c = search (rules, opened_not)

pub size_at-size-requires : goal.size_at-size-requires
size_at-size-requires c = let l = led_so _ _ _ c.leader_good.ensures c.if-not-leader_good.false-raw in omega arith

pub size_at-base-requires : goal.size_at-base-requires
size_at-base-requires c = let l = led_so _ _ _ c.leader_good.ensures c.if-not-leader_good.false-raw in omega arith

pub digit_at-l-requires : goal.digit_at-l-requires
digit_at-l-requires c = let l = led_so _ _ _ c.leader_good.ensures c.if-not-leader_good.false-raw in omega arith

pub digit_at-p-requires : goal.digit_at-p-requires
digit_at-p-requires c = let l = led_so _ _ _ c.leader_good.ensures c.if-not-leader_good.false-raw in omega arith

pub returns-then-not-head_good : goal.returns-then-not-head_good
returns-then-not-head_good c = search (rules, opened_not)

pub returns : goal.returns
returns c = opened_so _ _ _ _ _ _ _ _ c.leader_good.ensures
    c.if-not-leader_good.false-raw c.size_at-size.ensures
    c.size_at-base.ensures c.digit_at-l.ensures.0 c.digit_at-l.ensures.1
    c.digit_at-p.ensures.0 c.digit_at-p.ensures.1 c.head_good.ensures c.if-not-head_good.false-raw
