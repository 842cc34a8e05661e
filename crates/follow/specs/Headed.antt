-- What is asked of the two files, and the rules on DSID alone. What is to be believed stands in `changes`. It serves the proofs, and nothing here
-- need be believed. Assumes nothing.
use Rattle.std.specs.Prelude.{ℕ, ◌+◌, cond, List, eqb}
use Rattle.iso8211.specs.Premises.{FramedAt}
use Rattle.iso8211.specs.File.{record_at}
use Rattle.fieldparts.specs.Same.{same_list}
use Rattle.header.specs.Dsid.{Dsid}
use Rattle.fronts.specs.Front.{DsidIn}
use Rattle.changes.specs.Follow.{chart_name}

-- a file of which record 0 and the record of DSID and DSSI are there
pub record Headed (s : List ℕ) : Type 0 where
  pub front : FramedAt s 0
  pub dsid : DsidIn s (record_at s 1)

-- 9, 10, 11: d the cell's, e the update's
unfoldable pub dsid_code : Dsid → Dsid → ℕ
dsid_code d e =
    cond (same_list (chart_name d) (chart_name e)) (cond (eqb e.edition d.edition) (cond (eqb e.number (d.number + 1)) 0 11) 10) 9
