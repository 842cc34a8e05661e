-- Each return is one of the definition's tests.
use Rattle.octets.proofs.Tests.{tests, told_no, told_yes}
use Rattle.std.proofs.Common.{le-leb, eq-eqb}
use Rattle.iso8211.specs.Leader.{leader_good}
use Rattle.iso8211.proofs.leader.leader_good.Goals as goal

pub returns-then-s-at : goal.returns-then-s-at
unfolding leader_good
returns-then-s-at c = search tests

pub returns-then-not-kind_good : goal.returns-then-not-kind_good
unfolding leader_good
returns-then-not-kind_good c = rw (le-leb _ _ c.if-s-at.false, told_no _ _ c.kind_good.ensures c.if-not-kind_good.true-raw)

pub returns-then-not-size_good : goal.returns-then-not-size_good
unfolding leader_good
returns-then-not-size_good c = rw (
  le-leb _ _ c.if-s-at.false,
  told_yes _ _ c.kind_good.ensures c.if-not-kind_good.false-raw,
  told_no _ _ c.size_good.ensures c.if-not-size_good.true-raw,
)

pub returns-then-not-size_good-2 : goal.returns-then-not-size_good-2
unfolding leader_good
returns-then-not-size_good-2 c = rw (
  le-leb _ _ c.if-s-at.false,
  told_yes _ _ c.kind_good.ensures
      c.if-not-kind_good.false-raw,
  told_yes _ _ c.size_good.ensures c.if-not-size_good.false-raw,
  told_no _ _ c.size_good-2.ensures c.if-not-size_good-2.true-raw,
)

pub returns-then-s-at-ne48 : goal.returns-then-s-at-ne48
unfolding leader_good
returns-then-s-at-ne48 c = rw (
  le-leb _ _ c.if-s-at.false,
  told_yes _ _ c.kind_good.ensures c.if-not-kind_good.false-raw,
  told_yes _ _ c.size_good.ensures c.if-not-size_good.false-raw,
  told_yes _ _ c.size_good-2.ensures c.if-not-size_good-2.false-raw,
) (search tests)

pub returns : goal.returns
unfolding leader_good
returns c = rw (
  le-leb _ _ c.if-s-at.false,
  told_yes _ _ c.kind_good.ensures c.if-not-kind_good.false-raw,
  told_yes _ _ c.size_good.ensures c.if-not-size_good.false-raw,
  told_yes _ _ c.size_good-2.ensures c.if-not-size_good-2.false-raw,
  eq-eqb _ _ c.if-s-at-ne48.false,
)
