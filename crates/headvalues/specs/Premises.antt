-- What the code knows of a DSPM that is laid out. It serves the proofs, and nothing here need be believed. Assumes nothing.
use Rattle.std.specs.Prelude.{ℕ, ◌+◌, ◌≤◌, List, ◌≡◌, length}
use Rattle.headvalues.specs.Text.{text_end}
use Rattle.table.specs.Offsets.{DSPM_COMT}

-- the subfields of a DSPM fill s: 24 bytes, and COMT, whose end is the last byte of s
pub record DspmLaid (s : List ℕ) : Type 0 where
  pub long : 25 ≤ length s
  pub full : text_end s DSPM_COMT + 1 ≡ length s
