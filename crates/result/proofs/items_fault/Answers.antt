use Rattle.result.proofs.FaultLaws.{clear_judged, judged_able, judged_found, judged_on, judged_done}
use Rattle.std.proofs.Common.{rules}
use Rattle.result.proofs.items_fault.Goals as goal

pub loop-i-init : goal.loop-i-init
loop-i-init c = (search (rules, clear_judged), search rules)

pub code_of-code-requires : goal.code_of-code-requires
code_of-code-requires c = (search (rules, judged_able), search rules, search rules, search rules)

pub returns-then-code-ne0 : goal.returns-then-code-ne0
returns-then-code-ne0 c = (search (rules, judged_found), search rules)

pub loop-i-preserved : goal.loop-i-preserved
loop-i-preserved c = (search (rules, judged_on), search rules)

pub returns : goal.returns
returns c = (search (rules, judged_done), search rules)
