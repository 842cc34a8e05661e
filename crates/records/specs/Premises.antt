-- The fields of a record in a file, as pieces; and what is known of record 0. It serves the proofs, and nothing here need be believed. Assumes nothing.
use Rattle.std.specs.Prelude.{ℕ, zero, suc, ◌+◌, ◌-◌, List, [], ◌∷◌, ◌++◌, take, drop, length, true, ◌≡◌}
use Rattle.iso8211.specs.Record.{end_of, record_good}
use Rattle.iso8211.specs.Field.{count_at, field_at}
use Rattle.iso8211.specs.declared.field.Field.{Field}
use Rattle.records.specs.Pieces.{Piece}
use Rattle.iso8211.specs.Directory.{tag}

unfoldable pub piece_of : List ℕ → Field → Piece
piece_of s f = record { named = f.tag; content = take (f.length - 1) (drop f.start s) }

-- n fields of the record at `at`, from field j on
unfoldable pub pieces_from : ℕ → List ℕ → ℕ → ℕ → List Piece
pieces_from zero s at j = []
pieces_from (suc n) s at j = piece_of s (field_at s at j) ∷ pieces_from n s at (j + 1)

-- the fields of the record at `at`
unfoldable pub pieces_at : List ℕ → ℕ → List Piece
pieces_at s at = pieces_from (count_at s at) s at 0

-- the fields of n records, from the one at `at` on
unfoldable pub records_from : ℕ → List ℕ → ℕ → List (List Piece)
records_from zero s at = []
records_from (suc n) s at = pieces_at s at ∷ records_from n s (end_of s at)

-- bytes that, at the front of a file, are its record 0, whatever comes behind them
pub record First (first : List ℕ) : Type 0 where
  pub good : (t : List ℕ) → record_good true (first ++ t) 0 ≡ true
  pub end : (t : List ℕ) → end_of (first ++ t) 0 ≡ length first
