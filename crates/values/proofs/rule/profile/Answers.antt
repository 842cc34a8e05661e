-- Each way out by the tests that led there.
use Rattle.octets.proofs.Tests.{tests}
use Rattle.values.specs.Rule.{profile_of}
use Rattle.values.proofs.rule.profile.Goals as goal

pub returns-then-update : goal.returns-then-update
unfolding profile_of
returns-then-update c = search tests

pub returns : goal.returns
unfolding profile_of
returns c = search tests
