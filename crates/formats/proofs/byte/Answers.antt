-- Past the end the byte is 0 by its definition.
use Rattle.formats.proofs.FormatsLaws.{seen_past}
use Rattle.std.proofs.Common.{rules}
use Rattle.formats.proofs.byte.Goals as goal

pub returns-else-at-s : goal.returns-else-at-s
returns-else-at-s c = search (rules, seen_past)
