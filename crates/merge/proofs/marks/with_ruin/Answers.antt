-- The two ways of `with_ruin`.
use Rattle.merge.proofs.MarksLaws.{ruin_marked, ruin_plain}
use Rattle.std.proofs.Common.{rules}
use Rattle.merge.proofs.marks.with_ruin.Goals as goal

pub returns-then-ruin_of-eq2 : goal.returns-then-ruin_of-eq2
returns-then-ruin_of-eq2 c = search (rules, ruin_marked)

pub returns : goal.returns
returns c = search (rules, ruin_plain)
