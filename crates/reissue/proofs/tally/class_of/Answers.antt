-- By its tests. Assumes nothing.
use Rattle.reissue.specs.Tally.{class_of}
use Rattle.octets.proofs.Tests.{tests}
use Rattle.reissue.proofs.tally.class_of.Goals as goal

pub returns-in-0 : goal.returns-in-0
unfolding class_of
returns-in-0 c = search tests

pub returns-in-1 : goal.returns-in-1
unfolding class_of
returns-in-1 c = search tests

pub returns-in_default : goal.returns-in_default
unfolding class_of
returns-in_default c = search tests
