-- The directory of a record: a list of rows of three numbers, tag, length and position. Assumes nothing.
use Rattle.std.specs.Prelude.{ℕ, zero, suc, ◌+◌, ◌*◌, List, [], ◌∷◌, get_or}
use Rattle.octets.specs.Number.{byte_at}
use Rattle.octets.specs.Digits.{number_at}

-- a tag is four bytes, taken as a number whose first byte is the highest
unfoldable pub tag_at : List ℕ → ℕ → ℕ
tag_at s i = ((byte_at s i * 256 + byte_at s (i + 1)) * 256 + byte_at s (i + 2)) * 256 + byte_at s (i + 3)

-- "at least one entry (tag, length, position, all but the tag digits)": a row, with l digits of length and p of position
unfoldable pub row_at : List ℕ → ℕ → ℕ → ℕ → List ℕ
row_at s l p i = tag_at s i ∷ number_at s (i + 4) l ∷ number_at s (i + 4 + l) p ∷ []

abbrev pub tag : List ℕ → ℕ
tag row = get_or row 0 0

abbrev pub len : List ℕ → ℕ
len row = get_or row 1 0

abbrev pub position : List ℕ → ℕ
position row = get_or row 2 0

-- how many bytes a row takes
abbrev pub row_width : ℕ → ℕ → ℕ
row_width l p = 4 + l + p

-- n rows, from i on
unfoldable pub rows : ℕ → List ℕ → ℕ → ℕ → ℕ → List (List ℕ)
rows zero s l p i = []
rows (suc n) s l p i = row_at s l p i ∷ rows n s l p (i + row_width l p)
