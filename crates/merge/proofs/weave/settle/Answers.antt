use Rattle.merge.proofs.WeaveLaws.{settling_start, settling_on, settling_done}
use Rattle.std.proofs.Common.{rules}
use Rattle.merge.proofs.weave.settle.Goals as goal

pub loop-i-init : goal.loop-i-init
loop-i-init c = search (rules, settling_start)

pub loop-i-preserved : goal.loop-i-preserved
loop-i-preserved c = search (rules, settling_on)

pub returns : goal.returns
returns c = search (rules, settling_done)
