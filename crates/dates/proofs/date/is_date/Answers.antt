-- Each way out by the tests that led there.
use Rattle.octets.proofs.Tests.{tests}
use Rattle.dates.specs.Date.{is_date}
use Rattle.dates.proofs.date.is_date.Goals as goal

pub returns-then-y-lt1 : goal.returns-then-y-lt1
unfolding is_date
returns-then-y-lt1 c = search tests

pub returns-then-y-gt9999 : goal.returns-then-y-gt9999
unfolding is_date
returns-then-y-gt9999 c = search tests

pub returns-then-m-lt1 : goal.returns-then-m-lt1
unfolding is_date
returns-then-m-lt1 c = search tests

pub returns-then-m-gt12 : goal.returns-then-m-gt12
unfolding is_date
returns-then-m-gt12 c = search tests

pub returns-then-d-lt1 : goal.returns-then-d-lt1
unfolding is_date
returns-then-d-lt1 c = search tests

pub returns : goal.returns
unfolding is_date
returns c = rw (← c.days_in.ensures) (search tests)
