-- The digit sizes and the base address, then all of it by `put_over`. Assumes nothing.
use Rattle.records.proofs.HeadLaws.{head_put, head_room}
use Rattle.std.proofs.Common.{rules}
use Rattle.records.proofs.head.put_head.Goals as goal

pub put_over-requires : goal.put_over-requires
put_over-requires c = (search rules, (search rules, (search rules, search (rules, head_room))))

pub returns : goal.returns
returns c = search (rules, head_put)
