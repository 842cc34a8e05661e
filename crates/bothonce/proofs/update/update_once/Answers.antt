-- The pass, then the words in order and the names.
use Rattle.std.proofs.Common.{arith, rules}
use Rattle.readonce.proofs.CellLaws.{started_at}
use Rattle.bothonce.proofs.UpdateLaws.{update_not, once_readable, once_two, once_few, once_words, once_room, update_all}
use Rattle.bothonce.proofs.update.update_once.Goals as goal

pub returns-in_default : goal.returns-in_default
returns-in_default c = update_not

pub file_once-passed-requires : goal.file_once-passed-requires
file_once-passed-requires c = started_at 2 _ c.started.ensures (search rules)

pub returns-then-m-eq0 : goal.returns-then-m-eq0
returns-then-m-eq0 c = update_not

pub overflow_mul-m : goal.overflow_mul-m
overflow_mul-m c = omega (arith, once_few c.file_once-passed.ensures c.if-m-eq0.false)

pub returns-then-area-m : goal.returns-then-area-m
returns-then-area-m c = update_not

pub overflow_sub-m : goal.overflow_sub-m
overflow_sub-m c = once_two c.file_once-passed.ensures c.if-m-eq0.false

pub twice-requires : goal.twice-requires
twice-requires c =
    let told = c.file_once-passed.ensures in
    let some = c.if-m-eq0.false in (
      once_readable told some,
      once_room told some c.sort.ensures c.if-area-m.false,
      once_words told some c.sort.ensures,
    )

pub returns-then-is_some : goal.returns-then-is_some
returns-then-is_some c = update_not

pub returns : goal.returns
returns c = update_all c.file_once-passed.ensures
    c.if-m-eq0.false c.sort.ensures _
    c.twice.ensures (search rules) c.if-area-m.false
