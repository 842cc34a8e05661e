-- What the code knows of a DSID that is laid out. It serves the proofs, and nothing here need be believed. Assumes nothing.
use Rattle.std.specs.Prelude.{ℕ, ◌+◌, ◌≤◌, ◌<◌, List, ◌≡◌, length}
use Rattle.dataset.specs.declared.Ends.{Ends}
use Rattle.table.specs.Offsets.{DSID_DSNM}
use Rattle.dataset.specs.Dsid.{dsid_ends}

-- the texts end one after the other, with room for the bytes between, and the last end is the last byte of s
pub record Filled (s : List ℕ) (e : Ends) : Type 0 where
  pub names : DSID_DSNM ≤ e.dsnm
  pub edition : e.dsnm < e.edtn
  pub number : e.edtn < e.updn
  pub issue : e.updn + 22 ≤ e.psdn
  pub product : e.psdn < e.pred
  pub comment : e.pred + 4 ≤ e.comt
  pub full : e.comt + 1 ≡ length s

-- the subfields of a DSID fill s
abbrev pub DsidLaid : List ℕ → Type 0
DsidLaid s = Filled s (dsid_ends s)
