-- Eighteen bytes in one field are the two pointers.
use Rattle.spans.proofs.StrideLaws.{span_within}
use Rattle.quickvectors.proofs.VectorLaws.{begin_long, end_long, edge_mid}
use Rattle.topology.proofs.QuickLaws.{edge_listed, ends_told}
use Rattle.std.proofs.Common.{rules}
use Rattle.topology.proofs.seen.ends_lying.Goals as goal

pub ends_of-requires : goal.ends_of-requires
ends_of-requires c = search (rules, edge_listed)

pub ends_of-requires-then-to-from-ne18 : goal.ends_of-requires-then-to-from-ne18
ends_of-requires-then-to-from-ne18 c = search (rules, edge_listed)

pub slice_bounds-ends_between-end : goal.slice_bounds-ends_between-end
slice_bounds-ends_between-end c = search (rules, edge_mid)

pub slice_bounds-ends_between-end-2 : goal.slice_bounds-ends_between-end-2
slice_bounds-ends_between-end-2 c = search (rules, span_within)

pub ends_between-requires : goal.ends_between-requires
ends_between-requires c = (search (rules, begin_long), search (rules, end_long))

pub returns : goal.returns
returns c = search (rules, ends_told)
