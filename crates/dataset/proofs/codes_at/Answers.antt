use Rattle.std.proofs.Common.{rules}
use Rattle.dataset.proofs.DsidLaws.{codes_start, codes_no, codes_on, codes_done}
use Rattle.dataset.proofs.codes_at.Goals as goal

pub loop-k-init : goal.loop-k-init
loop-k-init c = codes_start _ _ _

pub returns-then-not-is_code : goal.returns-then-not-is_code
returns-then-not-is_code c = search (rules, codes_no)

pub loop-k-preserved : goal.loop-k-preserved
loop-k-preserved c = search (rules, codes_on)

pub returns : goal.returns
returns c = search (rules, codes_done)
