use Rattle.amendments.proofs.FaultLaws.{judging_start, judging_here, judging_framed, judging_stop, judging_on, judging_end}
use Rattle.std.proofs.Common.{rules}
use Rattle.amendments.proofs.fault.amendments_fault.Goals as goal

pub loop-k-init : goal.loop-k-init
loop-k-init c = (search (rules, judging_start), search rules, search rules, search rules, search rules)

pub amendment_code-code-requires : goal.amendment_code-code-requires
amendment_code-code-requires c = search (rules, judging_here)

pub returns-then-code-ne0 : goal.returns-then-code-ne0
returns-then-code-ne0 c = (search (rules, judging_stop), search rules)

pub record_end-at-requires : goal.record_end-at-requires
record_end-at-requires c = search (rules, judging_framed)

pub loop-k-preserved : goal.loop-k-preserved
loop-k-preserved c = (search (rules, judging_on), search rules, search rules, search rules, search rules)

pub returns : goal.returns
returns c = (search (rules, judging_end), search rules)
