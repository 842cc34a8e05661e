use Rattle.std.proofs.Common.{rules}
use Rattle.amend.proofs.ControlLaws.{means_pairs, means_soundings, means_none, means_come}
use Rattle.amend.proofs.control.coordinates_of.Goals as goal

pub returns-then-total-ne0 : goal.returns-then-total-ne0
returns-then-total-ne0 c = search (rules, means_pairs)

pub returns-then-total-ne0-2 : goal.returns-then-total-ne0-2
returns-then-total-ne0-2 c = search (rules, means_soundings)

pub returns-then-total-eq0 : goal.returns-then-total-eq0
returns-then-total-eq0 c = search (rules, means_none)

pub returns : goal.returns
returns c = search (rules, means_come)
