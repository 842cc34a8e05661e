-- The ways through the counts, each by its law.
use Rattle.vectorshape.proofs.ShapeLaws.{reads, isolated_pair, isolated_many, isolated_sounded}
use Rattle.vectorshape.specs.Shape.{isolated_good}
use Rattle.table.specs.Table.{row_of, table}
use Rattle.items.specs.Item.{list_of}
use Rattle.items.proofs.KindLaws.{vrpt_list, sg2d_list, sg3d_list}
use Rattle.std.proofs.Common.{rules}
use Rattle.vectorshape.proofs.vector.isolated_good.Goals as goal

pub count-requires : goal.count-requires
count-requires c = search (rules, vrpt_list)

pub returns-then-count-ne0 : goal.returns-then-count-ne0
unfolding isolated_good list_of row_of table
returns-then-count-ne0 c = search reads depth 12

pub count-pairs-requires : goal.count-pairs-requires
count-pairs-requires c = search (rules, sg2d_list)

pub count-soundings-requires : goal.count-soundings-requires
count-soundings-requires c = search (rules, sg3d_list)

pub returns-then-pairs-eq1 : goal.returns-then-pairs-eq1
returns-then-pairs-eq1 c = search (rules, isolated_pair)

pub returns-then-pairs-ne0 : goal.returns-then-pairs-ne0
returns-then-pairs-ne0 c = search (rules, isolated_many)

pub returns : goal.returns
returns c = search (rules, isolated_sounded)
