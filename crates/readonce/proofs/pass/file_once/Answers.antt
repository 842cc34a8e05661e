-- Record 0 first, then the records behind it.
use Rattle.chart.proofs.ReadLaws.{blank_upto}
use Rattle.readonce.proofs.PassLaws.{file_not, file_described, before_records, file_told}
use Rattle.readonce.proofs.pass.file_once.Goals as goal

pub described-requires : goal.described-requires
described-requires c = file_described c.requires

pub returns-in_default : goal.returns-in_default
returns-in_default c = file_not _ _ c.requires c.start_at-first.ensures c.found.ensures

pub records_once-requires : goal.records_once-requires
records_once-requires c = before_records _ _ _ _ c.requires
    c.in-Some.ensures.1 (blank_upto _ c.blank-table.ensures)

pub returns : goal.returns
returns c =
    file_told _ _
    c.requires
    c.in-Some.ensures.0
    c.in-Some.ensures.1
    c.records_once.ensures
