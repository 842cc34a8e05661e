-- Each way out is one law of the field: misplaced, undeclared, or as its content is filled.
use Rattle.std.proofs.Common.{rules}
use Rattle.layout.proofs.LayoutLaws.{field_misplaced, field_undeclared, field_full}
use Rattle.layout.proofs.field_laid.Goals as goal

pub returns-then-not-placed : goal.returns-then-not-placed
returns-then-not-placed c = search (rules, field_misplaced)

pub returns-then-marks-k-ne1 : goal.returns-then-marks-k-ne1
returns-then-marks-k-ne1 c = search (rules, field_undeclared)

pub returns : goal.returns
returns c = search (rules, field_full)
