use Rattle.std.proofs.Common.{rules}
use Rattle.writing.proofs.AllLaws.{all_start, word_writable, word_same, all_room, all_on, all_end}
use Rattle.writing.proofs.all.put_copies.Goals as goal

pub loop-k-init : goal.loop-k-init
loop-k-init c = search (rules, all_start)

pub put_copy-next-requires : goal.put_copy-next-requires
put_copy-next-requires c = (search (rules, word_writable), search (rules, word_same), search (rules, all_room))

pub loop-k-preserved : goal.loop-k-preserved
loop-k-preserved c = search (rules, all_on)

pub returns : goal.returns
returns c = search (rules, all_end)
