-- Each way out by the tests that led there.
use Rattle.octets.proofs.Tests.{tests}
use Rattle.dates.specs.Date.{is_leap}
use Rattle.dates.proofs.date.is_leap.Goals as goal

pub returns-then-y-ne0 : goal.returns-then-y-ne0
unfolding is_leap
returns-then-y-ne0 c = search tests

pub returns-then-y-ne0-2 : goal.returns-then-y-ne0-2
unfolding is_leap
returns-then-y-ne0-2 c = search tests

pub returns : goal.returns
unfolding is_leap
returns c = search tests
