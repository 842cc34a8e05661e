-- What reading digits one way answers. It serves the proofs, and nothing here need be believed. Assumes nothing.
use Rattle.std.specs.Prelude.{◌≡◌, ℕ, ◌+◌, ◌<◌, ◌≤◌, List}
use Rattle.octets.specs.Digits.{none, number_at}
use Rattle.octets.specs.Number.{byte_at}

-- r is what the digit at i stands for, or above 9
pub record DigitTold (s : List ℕ) (i r : ℕ) : Type 0 where
  pub told : r ≤ 9 → byte_at s i ≡ 48 + r

-- r is the number in the n digits from i on, or none
pub record NumberTold (s : List ℕ) (i n r : ℕ) : Type 0 where
  pub told : r < none → r ≡ number_at s i n
  pub most : r ≤ none

-- the same of five digits, above what they can say where there is none
pub record FiveTold (s : List ℕ) (i r : ℕ) : Type 0 where
  pub told : r ≤ 99999 → r ≡ number_at s i 5
  pub most : r ≤ 1001000000000
