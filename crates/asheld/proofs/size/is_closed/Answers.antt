-- By the three bytes.
use Rattle.asheld.proofs.SizeLaws.{closed_no, closed_by}
use Rattle.std.proofs.Common.{rules}
use Rattle.asheld.proofs.size.is_closed.Goals as goal

pub returns-then-s-at-ne48 : goal.returns-then-s-at-ne48
returns-then-s-at-ne48 c = search (rules, closed_no)

pub returns-then-s-at-ne52 : goal.returns-then-s-at-ne52
returns-then-s-at-ne52 c = search (rules, closed_no)

pub returns : goal.returns
returns c = search (rules, closed_by)
