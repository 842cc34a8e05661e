-- Numbers as text, parted by tabs, in lines. Assumes nothing.
use Rattle.std.specs.Prelude.{ℕ, ◌<◌, List, [], ◌∷◌, ◌++◌, length, get_or}
use Rattle.octets.specs.Digits.{digits_of, fewest}
use Rattle.table.specs.Text.{bytes}

-- a number in decimal, in the fewest digits
unfoldable pub number_text : ℕ → List ℕ
number_text v = digits_of (fewest v) v

-- "/ being a tab": each of these numbers behind a tab, and the line feed that ends the line
unfoldable pub tabbed : List ℕ → List ℕ
tabbed [] = 10 ∷ []
tabbed (v ∷ vs) = (9 ∷ number_text v) ++ tabbed vs

-- a line of numbers, v the first
unfoldable pub line_of : ℕ → List ℕ → List ℕ
line_of v vs = number_text v ++ tabbed vs

-- "A refusal prints only `refused`, code, file, record on one such line"
unfoldable pub refused_text : ℕ → ℕ → ℕ → List ℕ
refused_text code file index = bytes "refused" ++ tabbed (code ∷ file ∷ index ∷ [])

-- "it prints the header below"
unfoldable pub header_text : List ℕ
header_text = bytes "index\tname\tid\tversion\tattributes\tpointers\tcoordinates\n"

-- numbers of ten digits at the most
pub record ShortNumbers (vs : List ℕ) : Type 0 where
  pub each : (k : ℕ) → k < length vs → get_or vs k 0 < 10000000000
