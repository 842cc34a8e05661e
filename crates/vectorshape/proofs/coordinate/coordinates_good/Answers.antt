-- Pairs, then soundings.
use Rattle.octets.proofs.Tests.{chain}
use Rattle.vectorshape.specs.Shape.{coordinates_good}
use Rattle.table.specs.Table.{row_of, table}
use Rattle.items.specs.Item.{list_of}
use Rattle.items.proofs.KindLaws.{sg2d_list, sg2d_fixed, sg2d_bare, sg3d_list, sg3d_fixed, sg3d_bare}
use Rattle.std.proofs.Common.{rules}
use Rattle.vectorshape.proofs.coordinate.coordinates_good.Goals as goal

pub pairs_good-requires : goal.pairs_good-requires
pairs_good-requires c = search (rules, sg2d_list, sg2d_fixed, sg2d_bare)

pub returns-then-not-pairs_good : goal.returns-then-not-pairs_good
unfolding coordinates_good list_of row_of table
returns-then-not-pairs_good c = search chain

pub pairs_good-requires-2 : goal.pairs_good-requires-2
pairs_good-requires-2 c = search (rules, sg3d_list, sg3d_fixed, sg3d_bare)

pub returns : goal.returns
unfolding coordinates_good list_of row_of table
returns c = search chain
