-- A guess that holds is the answer; else the halving answers.
use Rattle.lookups.proofs.LookupLaws.{word_told}
use Rattle.std.proofs.Common.{rules}
use Rattle.lookups.proofs.lookup.has_near.Goals as goal

pub returns-then-is_there : goal.returns-then-is_there
returns-then-is_there c = search (rules, word_told)

pub returns-then-is_there-2 : goal.returns-then-is_there-2
returns-then-is_there-2 c = search (rules, word_told)

pub returns-then-is_there-3 : goal.returns-then-is_there-3
returns-then-is_there-3 c = search (rules, word_told)
