-- Each way out by the tests that led there.
use Rattle.octets.proofs.Tests.{tests}
use Rattle.values.specs.Vrid.{is_vector}
use Rattle.values.proofs.vrid.is_vector.Goals as goal

pub returns-then-rcnm-eq110 : goal.returns-then-rcnm-eq110
unfolding is_vector
returns-then-rcnm-eq110 c = search tests

pub returns-then-rcnm-eq120 : goal.returns-then-rcnm-eq120
unfolding is_vector
returns-then-rcnm-eq120 c = search tests

pub returns : goal.returns
unfolding is_vector
returns c = search tests
