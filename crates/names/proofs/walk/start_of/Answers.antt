use Rattle.iso8211.proofs.Promise.{at_start, at_on}
use Rattle.names.proofs.WalkLaws.{start_framed, start_done}
use Rattle.std.proofs.Common.{rules}
use Rattle.names.proofs.walk.start_of.Goals as goal

pub loop-init : goal.loop-init
loop-init c = search (rules, at_start)

pub record_end-at-requires : goal.record_end-at-requires
record_end-at-requires c = search (rules, start_framed)

pub loop-preserved : goal.loop-preserved
loop-preserved c = search (rules, at_on)

pub returns : goal.returns
returns c = search (rules, start_done)
