-- The tests of the definition, one after the other. Assumes nothing.
use Rattle.octets.proofs.Tests.{tests}
use Rattle.shownames.specs.Premises.{is_class}
use Rattle.shownames.proofs.named.is_class.Goals as goal

pub returns-then-rcnm-eq110 : goal.returns-then-rcnm-eq110
unfolding is_class
returns-then-rcnm-eq110 c = search tests

pub returns-then-rcnm-eq120 : goal.returns-then-rcnm-eq120
unfolding is_class
returns-then-rcnm-eq120 c = search tests

pub returns-then-rcnm-eq130 : goal.returns-then-rcnm-eq130
unfolding is_class
returns-then-rcnm-eq130 c = search tests

pub returns : goal.returns
unfolding is_class
returns c = search tests
