use Rattle.bothonce.proofs.RaiseLaws.{raising_start, raising_on, raising_end}
use Rattle.std.proofs.Common.{rules}
use Rattle.bothonce.proofs.raise.raise.Goals as goal

pub loop-i-init : goal.loop-i-init
loop-i-init c = search (rules, raising_start)

pub loop-i-preserved : goal.loop-i-preserved
loop-i-preserved c = search (rules, raising_on)

pub returns : goal.returns
returns c = search (rules, raising_end)
