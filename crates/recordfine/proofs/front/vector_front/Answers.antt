-- A third row of either kind, or none.
use Rattle.recordfine.proofs.FrontLaws.{behind_sg2d, behind_vrpt}
use Rattle.std.proofs.Common.{rules}
use Rattle.recordfine.proofs.front.vector_front.Goals as goal

pub returns-then-marked : goal.returns-then-marked
returns-then-marked c = search (rules, behind_sg2d)

pub returns-then-marked-2 : goal.returns-then-marked-2
returns-then-marked-2 c = search (rules, behind_vrpt)
