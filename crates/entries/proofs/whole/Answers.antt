-- The two tests of the definition, on what the walk counted.
use Rattle.entries.proofs.EntriesLaws.{good_none, good_end_lem}
use Rattle.std.proofs.Common.{rules}
use Rattle.entries.proofs.whole.Goals as goal

pub returns-then-count-ge1 : goal.returns-then-count-ge1
returns-then-count-ge1 c = search (rules, good_end_lem)

pub returns-else-count-ge1 : goal.returns-else-count-ge1
returns-else-count-ge1 c = search (rules, good_none)
