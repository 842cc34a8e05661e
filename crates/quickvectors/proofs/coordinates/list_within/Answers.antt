-- The bytes of the span are those that are lent.
use Rattle.spans.proofs.StrideLaws.{span_within}
use Rattle.quickvectors.proofs.CoordinateLaws.{list_no, list_told}
use Rattle.std.proofs.Common.{rules}
use Rattle.quickvectors.proofs.coordinates.list_within.Goals as goal

pub returns-then-to-from : goal.returns-then-to-from
returns-then-to-from c = search (rules, list_no)

pub slice_bounds-pairs_within-end : goal.slice_bounds-pairs_within-end
slice_bounds-pairs_within-end c = search (rules, span_within)

pub returns : goal.returns
returns c = search (rules, list_told)
