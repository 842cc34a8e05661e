-- Each way by its law.
use Rattle.amendments.proofs.CodeLaws.{held_target, held_version, held_identity, held_edit, held_fine}
use Rattle.std.proofs.Common.{rules}
use Rattle.amendments.proofs.code.held_code.Goals as goal

pub returns-then-ruin-eq1 : goal.returns-then-ruin-eq1
returns-then-ruin-eq1 c = (search (rules, held_target), search rules)

pub returns-then-version_of : goal.returns-then-version_of
returns-then-version_of c = (search (rules, held_version), search rules)

pub returns-then-not-identity_same : goal.returns-then-not-identity_same
returns-then-not-identity_same c = (search (rules, held_identity), search rules)

pub returns-then-not-edit_allowed : goal.returns-then-not-edit_allowed
returns-then-not-edit_allowed c = (search (rules, held_edit), search rules)

pub returns : goal.returns
returns c = (search (rules, held_fine), search rules)
