-- Four parts, one behind the other. Assumes nothing.
use Rattle.records.proofs.HeadLaws.{leader_put}
use Rattle.std.proofs.Common.{rules}
use Rattle.records.proofs.head.put_leader.Goals as goal

pub returns : goal.returns
returns c = (search (rules, leader_put), search rules)
