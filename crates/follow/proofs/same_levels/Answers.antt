-- AALL, then NALL. Assumes nothing.
use Rattle.fronts.proofs.FrontLaws.{levels_there}
use Rattle.follow.proofs.FollowLaws.{levels_first, levels_second}
use Rattle.std.proofs.Common.{rules}
use Rattle.follow.proofs.same_levels.Goals as goal

pub levels_at-own-requires : goal.levels_at-own-requires
levels_at-own-requires c = search (rules, levels_there)

pub levels_at-its-requires : goal.levels_at-its-requires
levels_at-its-requires c = search (rules, levels_there)

pub returns-then-its-own : goal.returns-then-its-own
returns-then-its-own c = search (rules, levels_first)

pub returns : goal.returns
returns c = search (rules, levels_second)
