-- The cursor is settled first; then no bytes before it are the end of the list, and else they are the part.
use Rattle.items.proofs.PartLaws.{part_none, part_some}
use Rattle.std.proofs.Common.{rules}
use Rattle.items.proofs.step.part.Goals as goal

pub returns-then-to-from : goal.returns-then-to-from
returns-then-to-from c = search (rules, part_none)

pub returns : goal.returns
returns c = search (rules, part_some)
