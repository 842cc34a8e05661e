-- Bytes that come: it doesn't stay.
use Rattle.std.proofs.Common.{rules}
use Rattle.amend.proofs.EditLaws.{stays_by}
use Rattle.amend.proofs.lists.stays.Goals as goal

pub returns-then-is_none : goal.returns-then-is_none
returns-then-is_none c = search (rules, stays_by)
