-- Each way out is one case of the definition; every shape of the table is sound.
use Rattle.std.proofs.Common.{rules}
use Rattle.octets.proofs.Tests.{tests}
use Rattle.layout.specs.Layout.{filled}
use Rattle.layout.proofs.KindLaws.{shape_sound}
use Rattle.layout.proofs.LayoutLaws.{filled_list, filled_single}
use Rattle.layout.proofs.fill.filled.Goals as goal

pub returns-then-k-eq-DSID : goal.returns-then-k-eq-DSID
unfolding filled
returns-then-k-eq-DSID c = search tests

pub returns-then-k-eq-DSPM : goal.returns-then-k-eq-DSPM
unfolding filled
returns-then-k-eq-DSPM c = search tests

pub whole-requires : goal.whole-requires
whole-requires c = rw c.kind_row-row.ensures (shape_sound _)

pub returns-then-row : goal.returns-then-row
returns-then-row c = search (rules, filled_list)

pub returns : goal.returns
returns c = search (rules, filled_single)
