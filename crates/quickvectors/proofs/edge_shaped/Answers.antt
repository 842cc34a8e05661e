-- Eighteen bytes are two entries.
use Rattle.spans.proofs.StrideLaws.{span_within}
use Rattle.quickvectors.proofs.VectorLaws.{edge_no, edge_told, begin_long, end_long, edge_mid}
use Rattle.std.proofs.Common.{rules}
use Rattle.quickvectors.proofs.edge_shaped.Goals as goal

pub returns-then-to-from : goal.returns-then-to-from
returns-then-to-from c = search (rules, edge_no)

pub returns-then-to-from-ne18 : goal.returns-then-to-from-ne18
returns-then-to-from-ne18 c = search (rules, edge_no)

pub slice_bounds-ends_held-end : goal.slice_bounds-ends_held-end
slice_bounds-ends_held-end c = search (rules, edge_mid)

pub slice_bounds-ends_held-end-2 : goal.slice_bounds-ends_held-end-2
slice_bounds-ends_held-end-2 c = search (rules, span_within)

pub ends_held-requires : goal.ends_held-requires
ends_held-requires c = (search (rules, begin_long), search (rules, end_long), search rules)

pub returns : goal.returns
returns c = search (rules, edge_told)
