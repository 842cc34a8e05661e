-- A yes has both tests behind it.
use Rattle.recordfine.proofs.WalkLaws.{whole_not, whole_so}
use Rattle.std.proofs.Common.{rules}
use Rattle.recordfine.proofs.is_whole.Goals as goal

pub returns-then-due-size : goal.returns-then-due-size
returns-then-due-size c = search (rules, whole_not)

pub returns : goal.returns
returns c = search (rules, whole_so)
