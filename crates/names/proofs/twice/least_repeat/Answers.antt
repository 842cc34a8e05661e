use Rattle.names.proofs.TwiceLaws.{pass_none, pass_start, pass_turn, pass_done}
use Rattle.std.proofs.Common.{rules}
use Rattle.names.proofs.twice.least_repeat.Goals as goal

pub returns-then-m-eq0 : goal.returns-then-m-eq0
returns-then-m-eq0 c = search (rules, pass_none)

pub loop-i-init : goal.loop-i-init
loop-i-init c = search (rules, pass_start)

pub loop-i-preserved : goal.loop-i-preserved
loop-i-preserved c = search (rules, pass_turn)

pub returns : goal.returns
returns c = search (rules, pass_done)
