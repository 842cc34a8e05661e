-- Two parts, one behind the other.
use Rattle.asheld.proofs.WriteLaws.{front_put}
use Rattle.std.proofs.Common.{rules}
use Rattle.asheld.proofs.write.put_front.Goals as goal

pub returns : goal.returns
returns c = (search (rules, front_put), search rules)
