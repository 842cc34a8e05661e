-- Four numbers, one behind the other.
use Rattle.answers.proofs.SixteenLaws.{answer_other, answer_put, room_second, room_third, room_fourth}
use Rattle.std.proofs.Common.{rules}
use Rattle.answers.proofs.sixteen.put_answer.Goals as goal

pub returns-then-area-ne16 : goal.returns-then-area-ne16
returns-then-area-ne16 c = search (rules, answer_other)

pub put4-index-requires : goal.put4-index-requires
put4-index-requires c = search (rules, room_second)

pub put_low-number-requires : goal.put_low-number-requires
put_low-number-requires c = search (rules, room_third)

pub put_low-requires : goal.put_low-requires
put_low-requires c = room_fourth _ _ _ _ (search rules) c.put4-file.ensures
    _ _ _ c.put4-index.ensures _ _ _ c.put_low-number.ensures

pub returns : goal.returns
returns c = search (rules, answer_put)
