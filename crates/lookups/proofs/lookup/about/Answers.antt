-- A part of words in order is in order; all else is bounds.
use Rattle.std.proofs.Common.{arith, rules}
use Rattle.lookups.proofs.LookupLaws.{sorted_part}
use Rattle.lookups.proofs.lookup.about.Goals as goal

pub find-requires : goal.find-requires
find-requires c = (search rules, sorted_part _ _ _ _ _ c.requires.1 (omega arith))
