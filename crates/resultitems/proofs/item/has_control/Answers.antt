-- Two controls, by the class of the record.
use Rattle.resultitems.proofs.SparedLaws.{control_there, control_feature, control_vector}
use Rattle.std.proofs.Common.{rules}
use Rattle.resultitems.proofs.item.has_control.Goals as goal

pub returns-then-total-ne0 : goal.returns-then-total-ne0
returns-then-total-ne0 c = search (rules, control_there)

pub returns-then-rank-eq3 : goal.returns-then-rank-eq3
returns-then-rank-eq3 c = search (rules, control_feature)

pub returns-then-total-ne0-2 : goal.returns-then-total-ne0-2
returns-then-total-ne0-2 c = search (rules, control_there)

pub returns : goal.returns
returns c = search (rules, control_vector)
