-- The parts are those of the definition; each test is its test.
use Rattle.fieldparts.proofs.DescriptiveLaws.{cut_within}
use Rattle.declarations.proofs.DescribedLaws.{parts_none, row_left}
use Rattle.std.proofs.Common.{rules}
use Rattle.declarations.proofs.field.describes.Goals as goal

pub returns-then-parts-eq0 : goal.returns-then-parts-eq0
returns-then-parts-eq0 c = search (rules, parts_none)

pub same_row-requires : goal.same_row-requires
same_row-requires c = search (rules, cut_within)

pub returns : goal.returns
returns c = search (rules, row_left)
