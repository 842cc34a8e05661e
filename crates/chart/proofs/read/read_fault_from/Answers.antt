-- Record 0 first, then the records behind it.
use Rattle.iso8211.proofs.Promise.{record_in, at_start, last_ends}
use Rattle.chart.proofs.ReadLaws.{read_described, read_records, blank_upto}
use Rattle.chart.proofs.read.read_fault_from.Goals as goal

pub described-requires : goal.described-requires
described-requires c = record_in _ _ 0 0 c.requires.0 (last_ends _ _ c.requires.0).0 (at_start _)

pub returns-in_default : goal.returns-in_default
returns-in_default c = read_described _ _ _ _ c.in_default.ensures.0 c.refuse.ensures

pub records_fault-requires : goal.records_fault-requires
records_fault-requires c =
    let so = c.requires.2 in
    let table = blank_upto _ c.blank-table.ensures in
    record {
      framed = c.requires.0;
      short = c.requires.1;
      low = so.low;
      high = so.high;
      place = so.place;
      all = c.in-Some.ensures.1;
      wide = table.0;
      blank = table.1;
    }

pub returns : goal.returns
returns c =
    read_records _ _
    c.requires.2
    c.in-Some.ensures.0
    c.in-Some.ensures.1
    c.records_fault.ensures
