-- Each return is one of the definition's tests.
use Rattle.octets.proofs.Tests.{tests}
use Rattle.recordfine.specs.Premises.{head_good}
use Rattle.recordfine.proofs.open.head_good.Goals as goal

pub returns-then-size-gt99999 : goal.returns-then-size-gt99999
unfolding head_good
returns-then-size-gt99999 c = search tests

pub returns-then-s-at : goal.returns-then-s-at
unfolding head_good
returns-then-s-at c = search tests

pub returns-then-size-base : goal.returns-then-size-base
unfolding head_good
returns-then-size-base c = search tests

pub returns-then-base-w : goal.returns-then-base-w
unfolding head_good
returns-then-base-w c = search tests

pub returns-then-base-w-ne0 : goal.returns-then-base-w-ne0
unfolding head_good
returns-then-base-w-ne0 c = search tests

pub returns : goal.returns
unfolding head_good
returns c = search tests
