-- The update's front, then both.
use Rattle.readboth.proofs.CallLaws.{counted, opened_refused, opened_on}
use Rattle.std.proofs.Common.{rules}
use Rattle.readboth.proofs.read.update_opened.Goals as goal

pub both_checked-requires : goal.both_checked-requires
both_checked-requires c =
    (c.requires, counted 2 _ _ _ c.opened.ensures (search rules))

pub returns-in-Err : goal.returns-in-Err
returns-in-Err c = opened_refused 2 _ _ c.opened.ensures _ _ (search rules)

pub returns-in-Ok : goal.returns-in-Ok
returns-in-Ok c = opened_on 2 _ _ c.opened.ensures _ _ _ (search rules) c.both_checked.ensures
