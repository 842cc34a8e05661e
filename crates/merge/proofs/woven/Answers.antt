-- Each call's record is made of the one before it.
use Rattle.merge.proofs.WovenLaws.{warp_halves, warp_wove}
use Rattle.std.proofs.Common.{rules}
use Rattle.merge.proofs.woven.Goals as goal

pub weave-r-requires : goal.weave-r-requires
weave-r-requires c = search (rules, warp_halves)

pub returns : goal.returns
returns c = search (rules, warp_wove)
