use Rattle.topology.proofs.TopologyLaws.{fault_found, fault_on, fault_done, turn_laid, turn_known}
use Rattle.topology.proofs.SeenLaws.{clear_start}
use Rattle.std.proofs.Common.{rules}
use Rattle.topology.proofs.items_fault.Goals as goal

pub loop-i-init : goal.loop-i-init
loop-i-init c = search (rules, clear_start)

pub item_code-code-requires : goal.item_code-code-requires
item_code-code-requires c = (search (rules, turn_laid), search (rules, turn_known), search rules, search rules)

pub returns-then-code-ne0 : goal.returns-then-code-ne0
returns-then-code-ne0 c = search (rules, fault_found)

pub loop-i-preserved : goal.loop-i-preserved
loop-i-preserved c = search (rules, fault_on)

pub returns : goal.returns
returns c = search (rules, fault_done)
