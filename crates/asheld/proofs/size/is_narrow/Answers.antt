-- By the first digits.
use Rattle.asheld.proofs.SizeLaws.{narrow_no, narrow_by, rows_within}
use Rattle.std.proofs.Common.{rules}
use Rattle.asheld.proofs.size.is_narrow.Goals as goal

pub returns-then-r-last-eq48 : goal.returns-then-r-last-eq48
returns-then-r-last-eq48 c = search (rules, narrow_no)

pub some_long-requires : goal.some_long-requires
some_long-requires c = (search rules, search (rules, rows_within))

pub returns : goal.returns
returns c = search (rules, narrow_by)
