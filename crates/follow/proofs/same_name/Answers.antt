-- Bytes 7 to 14 of both. Assumes nothing.
use Rattle.follow.proofs.FollowLaws.{name_same}
use Rattle.std.proofs.Common.{rules}
use Rattle.follow.proofs.same_name.Goals as goal

pub returns : goal.returns
returns c = search (rules, name_same)
