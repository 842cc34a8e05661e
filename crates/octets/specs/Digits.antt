-- Decimal digits of a stated width, read and written. Assumes nothing.
use Rattle.std.specs.Prelude.{ℕ, zero, suc, ◌+◌, ◌-◌, ◌*◌, ◌/◌, ◌%◌, ◌^◌, Bool, cond, ◌&&◌, List, [], ◌∷◌, nat_le, nat_lt}
use Rattle.octets.specs.Number.{byte_at}

-- the digits 0 to 9
unfoldable pub is_digit : ℕ → Bool
is_digit b = nat_le 48 b && nat_le b 57

-- the answer "no number": no nine digits make it
abbrev pub none : ℕ
none = 1000000000

-- the number that the n bytes of s from i on add to `led` in decimal, or none where one of them is no digit
unfoldable pub digits_from : ℕ → List ℕ → ℕ → ℕ → ℕ
digits_from zero s i led = led
digits_from (suc n) s i led = cond (is_digit (byte_at s i)) (digits_from n s (i + 1) (led * 10 + (byte_at s i - 48))) none

-- the decimal number in the n bytes of s from i on
unfoldable pub number_at : List ℕ → ℕ → ℕ → ℕ
number_at s i n = digits_from n s i 0

-- v in w decimal digits with leading zeros; what of v does not fit is lost. v stays as it is, so that the last c digits are `digits_of c v`
unfoldable pub digits_of : ℕ → ℕ → List ℕ
digits_of zero v = []
digits_of (suc w) v = (48 + v / 10 ^ w % 10) ∷ digits_of w v

-- the fewest digits that v takes, 1 for 0; v is fuel enough (`fewest_more`)
unfoldable pub fewest_from : ℕ → ℕ → ℕ
fewest_from zero v = 1
fewest_from (suc f) v = cond (nat_lt v 10) 1 (fewest_from f (v / 10) + 1)

unfoldable pub fewest : ℕ → ℕ
fewest v = fewest_from v v
