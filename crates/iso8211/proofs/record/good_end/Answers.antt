-- The leader first, then the numbers in it, then the rest by these numbers.
use Rattle.std.proofs.Common.{arith}
use Rattle.iso8211.proofs.RecordLaws.{led, end_led, end_body, end_good_lem, end_within}
use Rattle.iso8211.proofs.record.good_end.Goals as goal

pub returns-then-not-leader_good : goal.returns-then-not-leader_good
returns-then-not-leader_good c = (end_led _ _ _ _ c.leader_good.ensures c.if-not-leader_good.true-raw, tt)

pub get_digits-size-requires : goal.get_digits-size-requires
get_digits-size-requires c = let l = led _ _ _ _ c.leader_good.ensures c.if-not-leader_good.false-raw in omega arith

pub get_digits-base-requires : goal.get_digits-base-requires
get_digits-base-requires c = let l = led _ _ _ _ c.leader_good.ensures c.if-not-leader_good.false-raw in omega arith

pub digit_at-l-requires : goal.digit_at-l-requires
digit_at-l-requires c = let l = led _ _ _ _ c.leader_good.ensures c.if-not-leader_good.false-raw in omega arith

pub digit_at-p-requires : goal.digit_at-p-requires
digit_at-p-requires c = let l = led _ _ _ _ c.leader_good.ensures c.if-not-leader_good.false-raw in omega arith

pub returns-then-not-body_good : goal.returns-then-not-body_good
returns-then-not-body_good c = (
  end_body _ _ _ _ _ _ _ _ _ c.leader_good.ensures
      c.if-not-leader_good.false-raw c.get_digits-size.ensures.is
      c.get_digits-base.ensures.is c.digit_at-l.ensures.0 c.digit_at-p.ensures.0
      c.body_good.ensures c.if-not-body_good.true-raw,
  tt,
)

pub returns : goal.returns
returns c = (
  end_good_lem _ _ _ _ _ _ _ _ _ c.leader_good.ensures
      c.if-not-leader_good.false-raw c.get_digits-size.ensures.is
      c.get_digits-base.ensures.is c.digit_at-l.ensures.0 c.digit_at-p.ensures.0
      c.body_good.ensures c.if-not-body_good.false-raw,
  end_within _ _ _ _ _ _ _ c.body_good.ensures c.if-not-body_good.false-raw,
)
