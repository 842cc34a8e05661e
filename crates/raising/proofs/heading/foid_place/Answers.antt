use Rattle.std.proofs.Common.{rules}
use Rattle.raising.proofs.FrontLaws.{foid_start, foid_within}
use Rattle.raising.proofs.heading.foid_place.Goals as goal

pub returns : goal.returns
returns c = (search (rules, foid_start), search (rules, foid_within))
