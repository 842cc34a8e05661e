-- The four lists, one after the other.
use Rattle.std.proofs.Common.{rules}
use Rattle.joining.proofs.PartLaws.{totals_are}
use Rattle.joining.proofs.lists.totals.Goals as goal

pub returns : goal.returns
returns c = search (rules, totals_are)
