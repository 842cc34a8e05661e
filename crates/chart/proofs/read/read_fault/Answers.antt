-- Before record 1 nothing was read.
use Rattle.iso8211.proofs.Promise.{framed_at, at_start, last_ends}
use Rattle.chart.proofs.ReadLaws.{read_first}
use Rattle.chart.proofs.read.read_fault.Goals as goal

pub record_end-requires : goal.record_end-requires
record_end-requires c = framed_at _ _ 0 0 c.requires.0 (last_ends _ _ c.requires.0).0 (at_start _)

pub read_fault_from-requires : goal.read_fault_from-requires
read_fault_from-requires c =
    let framed = c.requires.0 in
    (framed, c.requires.1, read_first _ _ _ _ _ (last_ends _ _ framed).0 c.record_end.ensures.0 c.start_at.ensures)
