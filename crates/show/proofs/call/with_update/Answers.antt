-- The cell alone, or the update's front, then both. Assumes nothing.
use Rattle.readboth.proofs.CallLaws.{counted}
use Rattle.show.proofs.CallLaws.{update_none, update_refused, update_counted}
use Rattle.std.proofs.Common.{rules}
use Rattle.show.proofs.call.with_update.Goals as goal

pub returns-then-update-eq0 : goal.returns-then-update-eq0
returns-then-update-eq0 c = search (rules, update_none)

pub pair-requires : goal.pair-requires
pair-requires c = (c.requires, counted 2 _ _ _ c.opened.ensures (search rules))

pub returns-in_err-m : goal.returns-in_err-m
returns-in_err-m c = search (rules, update_refused)

pub returns : goal.returns
returns c = search (rules, update_counted)
