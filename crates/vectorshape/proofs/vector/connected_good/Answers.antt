-- Each count of the definition in its order.
use Rattle.vectorshape.proofs.ShapeLaws.{reads}
use Rattle.vectorshape.specs.Shape.{connected_good}
use Rattle.table.specs.Table.{row_of, table}
use Rattle.items.specs.Item.{list_of}
use Rattle.items.proofs.KindLaws.{vrpt_list, sg2d_list, sg3d_list}
use Rattle.std.proofs.Common.{rules}
use Rattle.vectorshape.proofs.vector.connected_good.Goals as goal

pub count-requires : goal.count-requires
count-requires c = search (rules, vrpt_list)

pub returns-then-count-ne0 : goal.returns-then-count-ne0
unfolding connected_good list_of row_of table
returns-then-count-ne0 c = search reads depth 12

pub count-requires-2 : goal.count-requires-2
count-requires-2 c = search (rules, sg2d_list)

pub returns-then-count-ne1 : goal.returns-then-count-ne1
unfolding connected_good list_of row_of table
returns-then-count-ne1 c = search reads depth 12

pub count-requires-3 : goal.count-requires-3
count-requires-3 c = search (rules, sg3d_list)

pub returns : goal.returns
unfolding connected_good list_of row_of table
returns c = search reads depth 12
