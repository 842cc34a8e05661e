-- The row, and then that its kind is declared.
use Rattle.recordfine.proofs.FrontLaws.{marked_not, marked_so}
use Rattle.std.proofs.Common.{rules}
use Rattle.recordfine.proofs.front.marked.Goals as goal

pub returns-then-not-row_is : goal.returns-then-not-row_is
returns-then-not-row_is c = marked_not

pub returns : goal.returns
returns c = search (rules, marked_so)
