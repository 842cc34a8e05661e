-- Three parts, one behind the other. Assumes nothing.
use Rattle.records.proofs.HeadLaws.{sizes_put}
use Rattle.std.proofs.Common.{rules}
use Rattle.records.proofs.head.put_sizes.Goals as goal

pub returns : goal.returns
returns c = search (rules, sizes_put)
