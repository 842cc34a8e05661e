-- A guess that holds is the answer; else the halving answers.
use Rattle.lookups.proofs.LookupLaws.{first_told}
use Rattle.std.proofs.Common.{rules}
use Rattle.lookups.proofs.lookup.index_near.Goals as goal

pub returns-then-is_first : goal.returns-then-is_first
returns-then-is_first c = search (rules, first_told)

pub returns-then-is_first-2 : goal.returns-then-is_first-2
returns-then-is_first-2 c = search (rules, first_told)
