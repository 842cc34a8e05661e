-- Leader, rows and 1E, one behind the other. Assumes nothing.
use Rattle.records.proofs.HeadLaws.{over_put}
use Rattle.std.proofs.Common.{rules}
use Rattle.records.proofs.head.put_over.Goals as goal

pub returns : goal.returns
returns c = search (rules, over_put)
