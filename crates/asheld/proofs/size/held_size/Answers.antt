-- By the tags, the digit sizes, and the bytes that end leader and directory.
use Rattle.asheld.proofs.SizeLaws.{held_no, held_by_lem}
use Rattle.std.proofs.Common.{rules}
use Rattle.asheld.proofs.size.held_size.Goals as goal

pub returns-then-not-is_plain : goal.returns-then-not-is_plain
returns-then-not-is_plain c = search (rules, held_no)

pub returns-then-not-is_narrow : goal.returns-then-not-is_narrow
returns-then-not-is_narrow c = search (rules, held_no)

pub returns-then-not-is_closed : goal.returns-then-not-is_closed
returns-then-not-is_closed c = search (rules, held_no)

pub returns : goal.returns
returns c = search (rules, held_by_lem)
