use Rattle.std.proofs.Common.{arith, rules}
use Rattle.items.proofs.CountLaws.{count_start, count_end, count_on, count_room}
use Rattle.items.proofs.count.count.Goals as goal

pub loop-j-init : goal.loop-j-init
loop-j-init c = search (rules, count_start)

pub overflow_add-n : goal.overflow_add-n
overflow_add-n c = let room = count_room _ _ _ _ _ _ c.requires.laid c.requires.list
    c.requires.head.count c.loop-j.invariant _ (search rules) c.part_count-n.ensures in omega arith

pub loop-j-preserved : goal.loop-j-preserved
loop-j-preserved c = search (rules, count_on)

pub returns : goal.returns
returns c = count_end _ _ _ _ _ _ c.requires.laid c.requires.list c.requires.head.count
    c.loop-j.invariant (search rules)
