-- The header of the result is that of a good chart. Assumes nothing.
use Rattle.held.specs.Chart.{Chart}
use Rattle.held.specs.Good.{GoodChart}
use Rattle.header.proofs.DsidLaws.{DsidBack, Dated, revised_good}
use Rattle.changes.specs.Change.{Change}
use Rattle.changes.specs.Updated.{updated_header}
use Rattle.changes.specs.Good.{DsidBrought}

pub updated_dsid : (c : Chart) (u : Change) → GoodChart c → DsidBrought u.dsid → DsidBack (updated_header c.header u).dsid
unfolding updated_header
updated_dsid c u good brought =
    let held : DsidBack c.header.dsid = record { laid = good.dsid_is_laid; fine = good.dsid_fine; back = good.dsid_back } in
    let date : Dated u.dsid.issued = record { long = brought.long; date = brought.date } in
    revised_good c.header.dsid u.dsid held brought.number_high date
