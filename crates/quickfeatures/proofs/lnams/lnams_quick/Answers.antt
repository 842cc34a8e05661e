-- The bytes of the span are those that are lent.
use Rattle.spans.proofs.StrideLaws.{span_within}
use Rattle.quickfeatures.proofs.LnamLaws.{related_no, related_none, related_told}
use Rattle.std.proofs.Common.{rules}
use Rattle.quickfeatures.proofs.lnams.lnams_quick.Goals as goal

pub returns-then-to-from : goal.returns-then-to-from
returns-then-to-from c = search (rules, related_no)

pub returns-then-from-to : goal.returns-then-from-to
returns-then-from-to c = search (rules, related_none)

pub slice_bounds-lnams_held-end : goal.slice_bounds-lnams_held-end
slice_bounds-lnams_held-end c = search (rules, span_within)

pub returns : goal.returns
returns c = search (rules, related_told)
