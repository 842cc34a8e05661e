-- Which update may follow a chart: codes 9 to 12, from the headers. Assumes nothing.
use Rattle.std.specs.Prelude.{ℕ, ◌+◌, cond, ◌&&◌, List, take, drop, eqb}
use Rattle.fieldparts.specs.Same.{same_list}
use Rattle.header.specs.Dsid.{Dsid}
use Rattle.held.specs.Chart.{Header}
use Rattle.changes.specs.Change.{Change}
use Rattle.table.specs.Offsets.{DSID_DSNM}
use Rattle.answers.specs.Codes.{OTHER, EDITION, NUMBER, LEVEL}

-- "first 8 of DSNM": DSNM stands behind RCNM, RCID, EXPP and INTU
unfoldable pub chart_name : Dsid → List ℕ
chart_name d = take 8 (drop DSID_DSNM d.named)

-- "9 Other, 10 Edition, 11 Number, 12 Level: first 8 of DSNM differ; EDTN differs as a number; UPDN isn't the cell's plus 1; AALL or NALL differs"
unfoldable pub follow_code : Header → Change → ℕ
follow_code h u =
    cond (same_list (chart_name h.dsid) (chart_name u.dsid))
    (cond (eqb u.dsid.edition h.dsid.edition)
    (cond (eqb u.dsid.number (h.dsid.number + 1))
    (cond (eqb u.aall h.aall && eqb u.nall h.nall) 0 LEVEL)
    NUMBER)
    EDITION)
    OTHER
