-- In a cell no value is a removal; in an update one that is none has to be text too.
use Rattle.std.proofs.Common.{rules}
use Rattle.attributes.proofs.AttributesLaws.{value_removal, value_cell, value_kept}
use Rattle.attributes.proofs.value_good.Goals as goal
use Rattle.attributes.proofs.value_good.Goals.{else-update-via-then-update+else-is_removal, else-update-via-else-update}

pub returns-then-is_removal : goal.returns-then-is_removal
returns-then-is_removal c = search (rules, value_removal)

pub returns : goal.returns
returns c = elim c.else-update.branch [ else-update-via-then-update+else-is_removal w ↦ search (rules, value_kept) | else-update-via-else-update w ↦ search (rules, value_cell) ]
