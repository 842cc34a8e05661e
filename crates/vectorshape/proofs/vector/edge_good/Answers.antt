-- Each part of the definition in its order.
use Rattle.vectorshape.proofs.ShapeLaws.{reads}
use Rattle.vectorshape.specs.Shape.{edge_good}
use Rattle.table.specs.Table.{row_of, table}
use Rattle.items.specs.Item.{list_of}
use Rattle.items.proofs.KindLaws.{vrpt_list, sg3d_list}
use Rattle.std.proofs.Common.{rules}
use Rattle.vectorshape.proofs.vector.edge_good.Goals as goal

pub count-requires : goal.count-requires
count-requires c = search (rules, sg3d_list)

pub returns-then-count-ne0 : goal.returns-then-count-ne0
unfolding edge_good list_of row_of table
returns-then-count-ne0 c = search reads depth 12

pub count-requires-2 : goal.count-requires-2
count-requires-2 c = search (rules, vrpt_list)

pub returns-then-count-ne2 : goal.returns-then-count-ne2
unfolding edge_good list_of row_of table
returns-then-count-ne2 c = search reads depth 12

pub ends_good-requires : goal.ends_good-requires
ends_good-requires c = search (rules, vrpt_list)

pub returns-then-not-ends_good : goal.returns-then-not-ends_good
unfolding edge_good list_of row_of table
returns-then-not-ends_good c = search reads depth 12

pub topi_sum-requires : goal.topi_sum-requires
topi_sum-requires c = (search (rules, vrpt_list), search rules)

pub returns : goal.returns
unfolding edge_good list_of row_of table
returns c = search reads depth 12
