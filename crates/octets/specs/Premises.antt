-- What the functions of numbers and digits answer. It serves the proofs, and nothing here need be believed. Assumes nothing.
use Rattle.std.specs.Prelude.{◌≡◌, ℕ, ◌+◌, ◌^◌, ◌<◌, ◌≤◌, List, length}
use Rattle.octets.specs.Digits.{none, number_at}
use Rattle.octets.specs.Number.{num_at}

-- what reading n digits answers: the number, below 10 ^ n, or none
pub record Number (s : List ℕ) (i n r : ℕ) : Type 0 where
  pub is : r ≡ number_at s i n
  pub most : r ≤ none

-- the n bytes from i on are digits
pub record Sure (s : List ℕ) (i n : ℕ) : Type 0 where
  pub few : n ≤ 9
  pub room : i + n ≤ length s
  pub number : number_at s i n < none

-- r is the number in the n bytes from p on, and so is below 256 ^ n
pub record Reads (s : List ℕ) (p n r : ℕ) : Type 0 where
  pub is : r ≡ num_at s p n
  pub small : r < 256 ^ n
