-- The limits of the held form, code 20. Assumes nothing.
use Rattle.std.specs.Prelude.{ℕ, ◌+◌, ◌≤◌, max, Bool, ◌&&◌, List, [], ◌∷◌, length, leb}
use Rattle.answers.specs.Codes.{most_bytes, most_records, longest_record}
use Rattle.records.specs.Pieces.{Piece}
use Rattle.records.specs.Written.{size_of, AllFit}
use Rattle.held.specs.Chart.{Chart}
use Rattle.held.specs.Held.{records_of, held_of}

-- how many bytes the longest of these records has
unfoldable pub longest_of : List (List Piece) → ℕ
longest_of [] = 0
longest_of (r ∷ rs) = max (size_of r) (longest_of rs)

-- how many records, with record 0
abbrev pub record_count : Chart → ℕ
record_count c = 3 + length c.items

-- "Limits: 99,999 bytes a record, 65,536 records with record 0, 5,242,880 bytes"; record 0 is far shorter
unfoldable pub fits : Chart → Bool
fits c = leb (record_count c) most_records && (leb (longest_of (records_of c)) longest_record && leb (length (held_of c)) most_bytes)

-- ---- the same as a proposition
pub record Fits (c : Chart) : Type 0 where
  pub few : record_count c ≤ most_records
  pub each : AllFit (records_of c)
  pub short : length (held_of c) ≤ most_bytes
