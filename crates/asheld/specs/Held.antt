-- Records whose bytes are those of the held form, but for the leader's free bytes and the running number. It serves the proofs, and nothing here
-- need be believed: what is promised of an item is `item_pieces` of the crate `itemfields`. Assumes nothing.
use Rattle.std.specs.Prelude.{ℕ, ◌+◌, ◌-◌, ◌*◌, ◌≤◌, ◌<◌, Bool, true, List, [], ◌∷◌, ◌++◌, ◌≡◌, length, take, drop, get_or}
use Rattle.octets.specs.Number.{byte_at, bytes_of}
use Rattle.octets.specs.Digits.{digits_of}
use Rattle.iso8211.specs.Leader.{size_at, base_at, length_digits, position_digits}
use Rattle.iso8211.specs.Directory.{row_width, len, position}
use Rattle.iso8211.specs.Field.{count_at, directory_at}
use Rattle.records.specs.Written.{length_size, position_size, head_over}
use Rattle.itemrows.specs.Plain.{Plain}

-- of n rows of w bytes, the first at i, one has a length that doesn't begin with 0
pub record LongRow (s : List ℕ) (i n w : ℕ) : Type 0 where
  pub row : ℕ
  pub below : row < n
  pub digit : byte_at s (i + row * w + 4) ≡ 48 → ⊥

pub record LongTold (s : List ℕ) (i n w : ℕ) (r : Bool) : Type 0 where
  pub is : r ≡ true → LongRow s i n w

-- "04" ends the leader, 1E the directory
pub record Closed (s : List ℕ) (at base : ℕ) : Type 0 where
  pub nought : byte_at s (at + 22) ≡ 48
  pub four : byte_at s (at + 23) ≡ 52
  pub closing : byte_at s (at + base - 1) ≡ 30

pub record ClosedTold (s : List ℕ) (at base : ℕ) (r : Bool) : Type 0 where
  pub is : r ≡ true → Closed s at base

-- "the two fewest digit sizes"
pub record Narrow (s : List ℕ) (at : ℕ) : Type 0 where
  pub lengths : length_size (directory_at s at) ≡ length_digits s at
  pub positions : position_size (directory_at s at) ≡ position_digits s at

pub record NarrowTold (s : List ℕ) (at : ℕ) (r : Bool) : Type 0 where
  pub is : r ≡ true → Narrow s at

-- i is where the last row of the directory stands
pub record LastAt (s : List ℕ) (at i : ℕ) : Type 0 where
  pub is : i ≡ at + 24 + (count_at s at - 1) * row_width (length_digits s at) (position_digits s at)
  pub room : i + row_width (length_digits s at) (position_digits s at) ≤ length s

-- the last row of the directory
abbrev pub last_row : List ℕ → ℕ → List ℕ
last_row s at = get_or (directory_at s at) (count_at s at - 1) []

pub record LastEnd (s : List ℕ) (at r : ℕ) : Type 0 where
  pub is : r ≡ len (last_row s at) + position (last_row s at)
  pub few : r ≤ 300000

-- each list in one field, in held order, and both digit sizes the fewest; the record has r bytes
pub record Held (s : List ℕ) (at r : ℕ) : Type 0 where
  pub plain : Plain (directory_at s at)
  pub narrow : Narrow s at
  pub closed : Closed s at (base_at s at)
  pub long : r ≡ base_at s at + (len (last_row s at) + position (last_row s at))

pub record HeldTold (s : List ℕ) (at r : ℕ) : Type 0 where
  pub is : (r ≡ 0 → ⊥) → Held s at r
  pub few : r ≤ 400000

-- ---- what is written of it
unfoldable pub long_of : ℕ → List ℕ
long_of size = digits_of 5 size ++ (32 ∷ 68 ∷ 32 ∷ 32 ∷ 32 ∷ 32 ∷ 32 ∷ [])

unfoldable pub base_of : ℕ → List ℕ
base_of base = digits_of 5 base ++ (32 ∷ 32 ∷ 32 ∷ [])

unfoldable pub front_of : ℕ → ℕ → List ℕ
front_of size base = long_of size ++ base_of base

-- with all behind that as it stands
unfoldable pub whole_of : List ℕ → ℕ → ℕ → ℕ → List ℕ
whole_of s at base size = front_of size base ++ take (size - 20) (drop (at + 20) s)

-- leader and directory, the running number, the bytes behind it as they stand
unfoldable pub held_bytes : ℕ → List ℕ → ℕ → ℕ → List ℕ
held_bytes number s at r =
    head_over r (base_at s at) (length_digits s at) (position_digits s at) (directory_at s at)
    ++ (bytes_of 2 number ++ take (r - (base_at s at + 2)) (drop (at + base_at s at + 2) s))

-- ---- whose leader is that of the held form too
pub record LeadTold (s : List ℕ) (at size : ℕ) (r : Bool) : Type 0 where
  pub is : r ≡ true → long_of size ≡ take 12 (drop at s)
  pub read : r ≡ true → size_at s at ≡ size

pub record BackTold (s : List ℕ) (at : ℕ) (r : Bool) : Type 0 where
  pub is : r ≡ true → base_of (base_at s at) ≡ take 8 (drop (at + 12) s)

pub record FrontTold (s : List ℕ) (at size : ℕ) (r : Bool) : Type 0 where
  pub is : r ≡ true → front_of size (base_at s at) ≡ take 20 (drop at s)
  pub read : r ≡ true → size_at s at ≡ size

-- but for the running number the record at `at` is the held form's, byte by byte
pub record Same (s : List ℕ) (at : ℕ) : Type 0 where
  pub held : Held s at (size_at s at)
  pub front : front_of (size_at s at) (base_at s at) ≡ take 20 (drop at s)
  pub few : size_at s at ≤ 400000
