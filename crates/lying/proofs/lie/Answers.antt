use Rattle.std.proofs.Common.{rules}
use Rattle.lying.proofs.LyingLaws.{lain_start, lain_end, start_due, turn_some, turn_fits, turn_due, turn_lain}
use Rattle.lying.proofs.lie.Goals as goal

pub loop-j-init : goal.loop-j-init
loop-j-init c = (search (rules, start_due), search (rules, lain_start))

pub keep-requires : goal.keep-requires
keep-requires c = (search rules, search rules, search (rules, turn_some), search (rules, turn_fits))

pub field_end-due-requires : goal.field_end-due-requires
field_end-due-requires c = search (rules, turn_fits)

pub loop-j-preserved : goal.loop-j-preserved
loop-j-preserved c = (search (rules, turn_due), search (rules, turn_lain))

pub returns : goal.returns
returns c = search (rules, lain_end)
