-- By the counts of entries.
use Rattle.std.proofs.Common.{rules}
use Rattle.splice.proofs.SpliceLaws.{counts_told}
use Rattle.splice.proofs.list.list_allowed.Goals as goal

pub returns : goal.returns
returns c = search (rules, counts_told)
