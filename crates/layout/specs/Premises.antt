-- What is known of records that were laid out. It serves the proofs, and nothing here need be believed. Assumes nothing.
use Rattle.std.specs.Prelude.{ℕ, ◌+◌, ◌-◌, ◌≤◌, ◌<◌, List, length, get_or, Bool, true, ◌≡◌}
use Rattle.headvalues.specs.Dspm.{most_comf}
use Rattle.iso8211.specs.Field.{count_at, field_at}
use Rattle.iso8211.specs.Premises.{FramedAt, RecordIn}
use Rattle.iso8211.specs.File.{record_at}
use Rattle.layout.specs.General.{comf_at}
use Rattle.table.specs.Table.{first}
use Rattle.layout.specs.Layout.{opens, follows, may_end, filled}
use Rattle.layout.specs.Record.{content_at, kind_at}

-- "then 0001 DSID DSSI": record 1 has a third field, whose 35 bytes are there
pub record DssiThere (s : List ℕ) : Type 0 where
  pub framed : FramedAt s (record_at s 1)
  pub third : 3 ≤ count_at s (record_at s 1)
  pub whole : (field_at s (record_at s 1) 2).start + 35 ≤ length s

-- the record at `at` has a third field, whose AALL and NALL are there
pub record LevelsIn (s : List ℕ) (at : ℕ) : Type 0 where
  pub inside : RecordIn s at
  pub third : 3 ≤ count_at s at
  pub room : (field_at s at 2).start + 3 ≤ length s

-- "then 0001 DSPM", "COMF 1 to 10,000,000": record 2 has a second field, whose COMF is there and not above that
pub record DspmThere (s : List ℕ) : Type 0 where
  pub framed : FramedAt s (record_at s 2)
  pub second : 2 ≤ count_at s (record_at s 2)
  pub whole : (field_at s (record_at s 2) 1).start + 20 ≤ length s
  pub few : comf_at s ≤ most_comf

-- what is known of a record in which every field is rightly placed, declared and filled by its subfields, and none is missing
pub record Laid (update : Bool) (stage : ℕ) (marks s : List ℕ) (at : ℕ) : Type 0 where
  pub two : 2 ≤ count_at s at
  pub head : kind_at s at 0 ≡ first
  pub opening : opens stage (kind_at s at 1) ≡ true
  pub order : (j : ℕ) → 2 ≤ j → j < count_at s at → follows update (kind_at s at (j - 1)) (kind_at s at j) ≡ true
  pub end : may_end (kind_at s at (count_at s at - 1)) ≡ true
  pub declared : (j : ℕ) → j < count_at s at → get_or marks (kind_at s at j) 0 ≡ 1
  pub full : (j : ℕ) → j < count_at s at → filled (kind_at s at j) (content_at s at j) ≡ true
