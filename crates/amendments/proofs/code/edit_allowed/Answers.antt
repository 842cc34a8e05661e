-- A delete, then a modify.
use Rattle.amendments.proofs.CodeLaws.{edit_delete, edit_modify}
use Rattle.std.proofs.Common.{rules}
use Rattle.amendments.proofs.code.edit_allowed.Goals as goal

pub returns-then-ruin-eq2 : goal.returns-then-ruin-eq2
returns-then-ruin-eq2 c = (search (rules, edit_delete), search rules)

pub returns : goal.returns
returns c = (search (rules, edit_modify), search rules)
