use Rattle.iso8211.proofs.Promise.{at_start, at_on}
use Rattle.names.proofs.WalkLaws.{seek_below, seek_framed, seek_on, seek_done}
use Rattle.std.proofs.Common.{rules}
use Rattle.names.proofs.walk.record_from.Goals as goal

pub loop-at-init : goal.loop-at-init
loop-at-init c = search (rules, at_start)

pub record_end-at-requires : goal.record_end-at-requires
record_end-at-requires c = search (rules, seek_framed)

pub loop-at-preserved : goal.loop-at-preserved
loop-at-preserved c = (search (rules, seek_below), search rules, search (rules, at_on), search (rules, seek_on))

pub returns : goal.returns
returns c = search (rules, seek_done)
