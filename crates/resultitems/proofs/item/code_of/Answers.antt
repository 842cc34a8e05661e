-- The code is that of the record, wherever it stands.
use Rattle.resultitems.proofs.ItemLaws.{new_stood, new_laid, new_known, kept_stood, kept_laid, kept_known, stood_code}
use Rattle.std.proofs.Common.{rules}
use Rattle.resultitems.proofs.item.code_of.Goals as goal

pub item_code-requires : goal.item_code-requires
item_code-requires c = search (rules, new_laid, new_known)

pub returns-then-a-eq1-2 : goal.returns-then-a-eq1-2
returns-then-a-eq1-2 c = (search (rules, stood_code, new_stood), search rules)

pub item_code-requires-2 : goal.item_code-requires-2
item_code-requires-2 c = search (rules, kept_laid, kept_known)

pub returns : goal.returns
returns c = (search (rules, stood_code, kept_stood), search rules)
