-- The records of DSID and of DSPM, over their contents. Nothing here need be believed. Assumes nothing.
use Rattle.std.specs.Prelude.{ℕ, ◌+◌, ◌≤◌, List, [], ◌∷◌, ◌++◌, ◌≡◌, length}
use Rattle.octets.specs.Number.{bytes_of}
use Rattle.iso8211.specs.Field.{count_at, field_at}
use Rattle.iso8211.specs.Premises.{RecordIn}
use Rattle.iso8211.specs.declared.field.Field.{Field}
use Rattle.table.specs.Table.{first, DSID, DSSI, DSPM}
use Rattle.layout.specs.Record.{content_at}
use Rattle.layout.specs.General.{aall_at, nall_at}
use Rattle.counted.specs.declared.counts.Tally.{Tally}
use Rattle.records.specs.Pieces.{Piece}
use Rattle.records.specs.Written.{head_bytes, size_of}
use Rattle.itemfields.specs.Fields.{piece}
use Rattle.header.specs.Dsid.{dsid_of, dsid_bytes, revised}
use Rattle.header.specs.Dssi.{dssi_bytes}
use Rattle.header.specs.Known.{Known}

abbrev pub dsid_fields : List ℕ → List ℕ → List Piece
dsid_fields d v = piece first (bytes_of 2 1) ∷ piece DSID d ∷ piece DSSI v ∷ []

abbrev pub dspm_fields : List ℕ → List Piece
dspm_fields d = piece first (bytes_of 2 2) ∷ piece DSPM d ∷ []

-- what is written for the DSID of the record at `at`, and for its DSSI with these counts
abbrev pub dsid_in : List ℕ → ℕ → List ℕ
dsid_in s at = dsid_bytes (dsid_of (content_at s at 1))

abbrev pub dssi_in : List ℕ → ℕ → Tally → List ℕ
dssi_in s at t = dssi_bytes (aall_at s at) (nall_at s at) t

-- what is written for the DSID of the result: the cell's is in the record at `at`, the update's in that at `by`
abbrev pub revised_in : List ℕ → ℕ → List ℕ → ℕ → List ℕ
revised_in cell at update by = dsid_bytes (revised (dsid_of (content_at cell at 1)) (dsid_of (content_at update by 1)))

-- the rows of the record of a DSID of n bytes: 0001, DSID, DSSI
abbrev pub dsid_rows : ℕ → List (List ℕ)
dsid_rows n = (808464433 ∷ 3 ∷ 0 ∷ []) ∷ (1146308932 ∷ (n + 1) ∷ 3 ∷ []) ∷ (1146311497 ∷ 36 ∷ (n + 4) ∷ []) ∷ []

-- what stands before DSID there: leader, directory, and 0001
unfoldable pub opening : ℕ → List ℕ
opening n = head_bytes (dsid_rows n) (40 + n) ++ (bytes_of 2 1 ++ (30 ∷ []))

-- field j of the record at `at`, and that its bytes are there
pub record FieldThere (s : List ℕ) (at j : ℕ) (f : Field) : Type 0 where
  pub is : f ≡ field_at s at j
  pub long : 1 ≤ f.length
  pub few : f.length ≤ 99999
  pub within : f.start + f.length ≤ length s

-- the record at `at` is that of a DSID without a fault, and of a DSSI
pub record DsidIn (s : List ℕ) (at : ℕ) : Type 0 where
  pub inside : RecordIn s at
  pub third : 3 ≤ count_at s at
  pub known : Known (content_at s at 1)
  pub whole : (field_at s at 2).start + 35 ≤ length s

pub record DspmIn (s : List ℕ) (at : ℕ) : Type 0 where
  pub inside : RecordIn s at
  pub second : 2 ≤ count_at s at

-- the record of DSID has r bytes, whatever its counts
pub record DsidSized (s : List ℕ) (at r : ℕ) : Type 0 where
  pub is : (v : List ℕ) → length v ≡ 35 → r ≡ size_of (dsid_fields (dsid_bytes (dsid_of (content_at s at 1))) v)
  pub few : r ≤ 200000

-- that of the result's DSID
pub record RevisedSized (cell : List ℕ) (at : ℕ) (update : List ℕ) (by r : ℕ) : Type 0 where
  pub is : (v : List ℕ) → length v ≡ 35 → r ≡ size_of (dsid_fields (revised_in cell at update by) v)
  pub few : r ≤ 200000

-- that of any DSID of n bytes
pub record SizeFor (n r : ℕ) : Type 0 where
  pub is : (d v : List ℕ) → length d ≡ n → length v ≡ 35 → r ≡ size_of (dsid_fields d v)
  pub few : r ≤ n + 257
