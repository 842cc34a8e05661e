-- An opening bracket decides.
use Rattle.formats.proofs.FormatsLaws.{item_list, item_alone}
use Rattle.std.proofs.Common.{rules}
use Rattle.formats.proofs.item.Goals as goal

pub returns-then-byte-eq40 : goal.returns-then-byte-eq40
returns-then-byte-eq40 c = search (rules, item_list)

pub returns-else-byte-eq40 : goal.returns-else-byte-eq40
returns-else-byte-eq40 c = search (rules, item_alone)
