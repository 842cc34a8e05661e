-- Each return is one of the definition's tests.
use Rattle.octets.proofs.Tests.{tests}
use Rattle.iso8211.specs.Leader.{kind_good}
use Rattle.iso8211.proofs.leader.kind_good.Goals as goal

pub returns-then-s-at-ne76 : goal.returns-then-s-at-ne76
unfolding kind_good
returns-then-s-at-ne76 c = rw c.if-first.true (search tests)

pub returns-then-s-at-ne48 : goal.returns-then-s-at-ne48
unfolding kind_good
returns-then-s-at-ne48 c = rw c.if-first.true (search tests)

pub returns-then-first : goal.returns-then-first
unfolding kind_good
returns-then-first c = rw c.if-first.true (search tests)

pub returns : goal.returns
unfolding kind_good
returns c = rw c.if-first.false
