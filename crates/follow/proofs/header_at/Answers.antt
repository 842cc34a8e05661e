-- Record 1 starts where record 0 ends. Assumes nothing.
use Rattle.follow.proofs.FollowLaws.{first_at, first_dsid}
use Rattle.std.proofs.Common.{rules}
use Rattle.follow.proofs.header_at.Goals as goal

pub returns : goal.returns
returns c = (search (rules, first_at), search (rules, first_dsid))
