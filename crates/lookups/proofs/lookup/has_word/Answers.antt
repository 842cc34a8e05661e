-- The first word that is not below w is w, or w is not there.
use Rattle.std.proofs.Common.{rules}
use Rattle.lookups.proofs.LookupLaws.{has_end, has_here}
use Rattle.lookups.proofs.lookup.has_word.Goals as goal

pub returns-then-from-m : goal.returns-then-from-m
returns-then-from-m c = search (rules, has_end)

pub returns : goal.returns
returns c = search (rules, has_here)
