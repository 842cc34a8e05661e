-- Dates of the Gregorian calendar. Assumes nothing.
use Rattle.std.specs.Prelude.{ℕ, ◌+◌, ◌%◌, Bool, cond, not, ◌&&◌, ◌||◌, List, leb, eqb}
use Rattle.octets.specs.Digits.{number_at}

-- a leap year: every fourth, of the full hundreds only every fourth
unfoldable pub is_leap : ℕ → Bool
is_leap y = eqb (y % 4) 0 && (not (eqb (y % 100) 0) || eqb (y % 400) 0)

-- how many days the month m of the year y has
unfoldable pub days_in : ℕ → ℕ → ℕ
days_in y m = cond (eqb m 2) (cond (is_leap y) 29 28) (cond (eqb m 4 || (eqb m 6 || (eqb m 9 || eqb m 11))) 30 31)

-- "a Gregorian YYYYMMDD, year from 0001"
unfoldable pub is_date : ℕ → ℕ → ℕ → Bool
is_date y m d = leb 1 y && (leb y 9999 && (leb 1 m && (leb m 12 && (leb 1 d && leb d (days_in y m)))))

-- the eight bytes of s from i on
unfoldable pub date_good : List ℕ → ℕ → Bool
date_good s i = is_date (number_at s i 4) (number_at s (i + 4) 2) (number_at s (i + 6) 2)
