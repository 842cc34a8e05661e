-- The least place among right neighbours of their own name is the place of the first repeat.
use Rattle.names.proofs.TwiceLaws.{twice_none, twice_inside, twice_is}
use Rattle.std.proofs.Common.{rules}
use Rattle.names.proofs.twice.twice.Goals as goal

pub returns-then-least-eq-NAME_WEIGHT : goal.returns-then-least-eq-NAME_WEIGHT
returns-then-least-eq-NAME_WEIGHT c = search (rules, twice_none)

pub record_from-index-requires : goal.record_from-index-requires
record_from-index-requires c = (search rules, search (rules, twice_inside))

pub returns : goal.returns
returns c = search (rules, twice_is)
