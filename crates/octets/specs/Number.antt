-- Numbers in bytes, low byte first, at any width. Assumes nothing.
use Rattle.std.specs.Prelude.{ℕ, zero, suc, ◌+◌, ◌*◌, ◌/◌, ◌%◌, List, [], ◌∷◌, slice_index}

-- the byte of s at i, 0 past its end
abbrev pub byte_at : List ℕ → ℕ → ℕ
byte_at s i = slice_index s i

-- "Numbers are low byte first": the number in the n bytes of s from p on
unfoldable pub num_at : List ℕ → ℕ → ℕ → ℕ
num_at s p zero = 0
num_at s p (suc n) = byte_at s p + 256 * num_at s (suc p) n

-- the n bytes in which v is written; what of v does not fit is lost
unfoldable pub bytes_of : ℕ → ℕ → List ℕ
bytes_of zero v = []
bytes_of (suc n) v = v % 256 ∷ bytes_of n (v / 256)
