-- Before record 1 nothing was read.
use Rattle.std.proofs.Common.{false}
use Rattle.iso8211.proofs.Promise.{framed_at, at_start, last_ends}
use Rattle.chart.proofs.ReadLaws.{read_first}
use Rattle.reader.proofs.fault.cell_fault.Goals as goal

pub record_end-requires : goal.record_end-requires
record_end-requires c = framed_at _ _ 0 0 c.requires.framed (last_ends _ _ c.requires.framed).0 (at_start _)

pub cell_fault_from-requires : goal.cell_fault_from-requires
cell_fault_from-requires c =
    let lent = c.requires in
    (lent, read_first false _ _ _ _ (last_ends _ _ lent.framed).0 c.record_end.ensures.0 c.start_at.ensures)
