use Rattle.std.proofs.Common.{rules}
use Rattle.writing.proofs.AllLaws.{all_start, word_writable, all_room, all_on, all_end}
use Rattle.writing.proofs.all.put_items.Goals as goal

pub loop-k-init : goal.loop-k-init
loop-k-init c = search (rules, all_start)

pub put_item-next-requires : goal.put_item-next-requires
put_item-next-requires c = (search (rules, word_writable), search (rules, all_room))

pub loop-k-preserved : goal.loop-k-preserved
loop-k-preserved c = search (rules, all_on)

pub returns : goal.returns
returns c = search (rules, all_end)
