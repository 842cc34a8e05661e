-- The tests in the order of the definition.
use Rattle.std.proofs.Common.{rules}
use Rattle.labelled.proofs.WorkedLaws.{lost_before, no_removal, removal_found}
use Rattle.labelled.proofs.labels.still_found.Goals as goal

pub returns-then-not-found : goal.returns-then-not-found
returns-then-not-found c = search (rules, lost_before)

pub returns-then-not-is_removal : goal.returns-then-not-is_removal
returns-then-not-is_removal c = search (rules, no_removal)

pub returns : goal.returns
returns c = search (rules, removal_found)
