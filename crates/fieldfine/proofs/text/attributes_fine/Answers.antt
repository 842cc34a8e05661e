use Rattle.std.proofs.Common.{arith, rules}
use Rattle.fieldfine.proofs.ListLaws.{attributing_start, attributing_on, attributing_end, attribute_fits, attribute_some, attributes_no}
use Rattle.fieldfine.proofs.TextLaws.{label_so}
use Rattle.fieldfine.proofs.text.attributes_fine.Goals as goal

pub loop-at-init : goal.loop-at-init
loop-at-init c = (search rules, search rules, search rules, search (rules, attributing_start))

pub returns-then-n-eq0 : goal.returns-then-n-eq0
returns-then-n-eq0 c = attributes_no

pub get2-label-requires : goal.get2-label-requires
get2-label-requires c = let f = attribute_fits _ c.requires.0 c.attribute_len-n.ensures c.if-n-eq0.false in
    let s = attribute_some _ c.attribute_len-n.ensures c.if-n-eq0.false in omega arith

pub returns-then-table-label : goal.returns-then-table-label
returns-then-table-label c = attributes_no

pub overflow_add-at : goal.overflow_add-at
overflow_add-at c = let f = attribute_fits _ c.requires.0
    c.attribute_len-n.ensures c.if-n-eq0.false in omega arith

pub loop-at-preserved : goal.loop-at-preserved
loop-at-preserved c = (search (rules, attribute_fits), search rules, search rules, search (rules, attributing_on, label_so))

pub returns : goal.returns
returns c = search (rules, attributing_end)
