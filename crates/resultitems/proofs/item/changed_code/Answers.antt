-- The code of the cell's record where no control comes, else that of the record that was built.
use Rattle.resultitems.proofs.ItemLaws.{stood_code}
use Rattle.resultitems.proofs.SparedLaws.{changed_laid, changed_known, changed_classed, code_kept}
use Rattle.std.proofs.Common.{rules}
use Rattle.resultitems.proofs.item.changed_code.Goals as goal

pub has_control-requires : goal.has_control-requires
has_control-requires c = search (rules, changed_classed)

pub item_code-requires : goal.item_code-requires
item_code-requires c = (search (rules, changed_laid), search (rules, changed_known), search rules, search rules)

pub returns-then-not-has_control : goal.returns-then-not-has_control
returns-then-not-has_control c = (search (rules, code_kept), search rules)

pub returns : goal.returns
returns c = (search (rules, stood_code), search rules)
