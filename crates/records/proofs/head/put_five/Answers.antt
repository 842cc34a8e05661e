-- Five digits end five bytes on. Assumes nothing.
use Rattle.records.proofs.HeadLaws.{five_put}
use Rattle.std.proofs.Common.{rules}
use Rattle.records.proofs.head.put_five.Goals as goal

pub returns : goal.returns
returns c = (search rules, search (rules, five_put))
