-- The last row's length and position.
use Rattle.asheld.proofs.SizeLaws.{last_length, last_position, last_sum}
use Rattle.std.proofs.Common.{rules}
use Rattle.asheld.proofs.size.last_end.Goals as goal

pub sure_at-requires : goal.sure_at-requires
sure_at-requires c = search (rules, last_length)

pub sure_at-requires-2 : goal.sure_at-requires-2
sure_at-requires-2 c = search (rules, last_position)

pub returns : goal.returns
returns c = search (rules, last_sum)
