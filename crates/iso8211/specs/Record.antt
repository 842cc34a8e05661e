-- A record whose framing is good. Assumes nothing.
use Rattle.std.specs.Prelude.{ℕ, ◌+◌, ◌-◌, ◌/◌, ◌%◌, ◌≤◌, Bool, ◌&&◌, List, [], ◌∷◌, length, leb, eqb}
use Rattle.octets.specs.Number.{byte_at}
use Rattle.iso8211.specs.Leader.{size_at, base_at, length_digits, position_digits, leader_good}
use Rattle.iso8211.specs.Directory.{row_width, rows, len, position}

-- "Field positions start at 0, follow without gaps and fill the record; each length is at least 1 and each field ends in 1E":
-- one field, due at `due` in the `size` bytes of fields that start at `body`
unfoldable pub field_good : List ℕ → ℕ → ℕ → ℕ → List ℕ → Bool
field_good s body size due row =
    eqb (position row) due && (leb 1 (len row) && (leb (due + len row) size && eqb (byte_at s (body + (due + len row) - 1)) 30))

-- all fields from here on, the next due at `due`
unfoldable pub in_row : List ℕ → ℕ → ℕ → List (List ℕ) → ℕ → Bool
in_row s body size [] due = eqb due size
in_row s body size (row ∷ more) due = field_good s body size due row && in_row s body size more (due + len row)

-- "The directory runs from 24 ..., then 1E hex just before the base address"; a record within the file, from the numbers of its leader
unfoldable pub body_good : List ℕ → ℕ → ℕ → ℕ → ℕ → ℕ → Bool
body_good s at size base l p =
    leb size 99999
    && (leb (at + size) (length s)
    && (leb base size
    && (leb (25 + row_width l p) base
    && (eqb ((base - 25) % row_width l p) 0
    && (eqb (byte_at s (at + base - 1)) 30
    && in_row s (at + base) (size - base) (rows ((base - 25) / row_width l p) s l p (at + 24)) 0)))))

unfoldable pub record_good : Bool → List ℕ → ℕ → Bool
record_good first s at = leader_good first s at && body_good s at (size_at s at) (base_at s at) (length_digits s at) (position_digits s at)

-- where the record at `at` ends
abbrev pub end_of : List ℕ → ℕ → ℕ
end_of s at = at + size_at s at

-- the leader is there, with its two sizes: what its readers need
pub record Led (s : List ℕ) (at : ℕ) : Type 0 where
  pub there : at + 24 ≤ length s
  pub l_low : 49 ≤ byte_at s (at + 20)
  pub l_high : byte_at s (at + 20) ≤ 57
  pub p_low : 49 ≤ byte_at s (at + 21)
  pub p_high : byte_at s (at + 21) ≤ 57
