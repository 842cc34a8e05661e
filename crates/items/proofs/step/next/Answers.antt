-- The cursor is settled first; then no bytes before it are the end of the list, and else an entry stands there.
use Rattle.items.proofs.CursorLaws.{step_none, step_some}
use Rattle.std.proofs.Common.{rules}
use Rattle.items.proofs.step.next.Goals as goal

pub returns-then-to-from : goal.returns-then-to-from
returns-then-to-from c = search (rules, step_none)

pub returns : goal.returns
returns c = search (rules, step_some)
