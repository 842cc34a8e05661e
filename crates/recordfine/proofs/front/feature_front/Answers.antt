-- Both rows, the first alone, or none.
use Rattle.recordfine.proofs.FrontLaws.{second_in, behind_frid, behind_foid}
use Rattle.std.proofs.Common.{rules}
use Rattle.recordfine.proofs.front.feature_front.Goals as goal

pub frid_fine-requires : goal.frid_fine-requires
frid_fine-requires c = (search (rules, second_in), search rules)

pub returns-then-h-k : goal.returns-then-h-k
returns-then-h-k c = search (rules, behind_frid)

pub returns-then-not-marked : goal.returns-then-not-marked
returns-then-not-marked c = search (rules, behind_frid)

pub returns : goal.returns
returns c = search (rules, behind_foid)
