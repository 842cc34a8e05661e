-- The first word that is not below the name's least has the name, or none has.
use Rattle.std.proofs.Common.{rules}
use Rattle.lookups.proofs.LookupLaws.{index_end, index_found, index_lost}
use Rattle.lookups.proofs.lookup.index_of.Goals as goal

pub returns-then-from-m : goal.returns-then-from-m
returns-then-from-m c = search (rules, index_end)

pub returns-then-get-name : goal.returns-then-get-name
returns-then-get-name c = index_found _ _ _ _ _ c.find-p.ensures.0 _ c.get.ensures (search rules) (search rules)

pub returns : goal.returns
returns c = search (rules, index_lost)
