-- Refused at once, or the cell alone or with the update. Assumes nothing.
use Rattle.std.proofs.Common.{rules}
use Rattle.readboth.proofs.CallLaws.{counted}
use Rattle.show.proofs.CallLaws.{seen_refused, seen_on}
use Rattle.show.proofs.call.with_cell.Goals as goal

pub with_update-requires : goal.with_update-requires
with_update-requires c = counted 1 _ _ _ c.opened.ensures (search rules)

pub returns-in_err-n : goal.returns-in_err-n
returns-in_err-n c = search (rules, seen_refused)

pub returns : goal.returns
returns c = search (rules, seen_on)
