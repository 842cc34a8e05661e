-- Each way by its law.
use Rattle.amendments.proofs.CodeLaws.{missing_target, missing_version, missing_edit, missing_fine}
use Rattle.std.proofs.Common.{rules}
use Rattle.amendments.proofs.code.missing_code.Goals as goal

pub returns-then-ruin_of-ne1 : goal.returns-then-ruin_of-ne1
returns-then-ruin_of-ne1 c = search (rules, missing_target)

pub returns-then-version_of-ne1 : goal.returns-then-version_of-ne1
returns-then-version_of-ne1 c = search (rules, missing_version)

pub returns-then-not-insert_allowed : goal.returns-then-not-insert_allowed
returns-then-not-insert_allowed c = search (rules, missing_edit)

pub returns : goal.returns
returns c = search (rules, missing_fine)
