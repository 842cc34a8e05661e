-- Each return is one of the definition's tests.
use Rattle.octets.proofs.Tests.{tests}
use Rattle.fieldfine.specs.Place.{list_stands}
use Rattle.fieldfine.proofs.place.list_stands.Goals as goal

pub returns-then-marks-k-ne1 : goal.returns-then-marks-k-ne1
unfolding list_stands
returns-then-marks-k-ne1 c = search tests

pub returns-then-prev-low : goal.returns-then-prev-low
unfolding list_stands
returns-then-prev-low c = search tests

pub returns : goal.returns
unfolding list_stands
returns c = search tests
