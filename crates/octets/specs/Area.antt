-- Bytes that stand in a list, and bytes written into an area. It serves the proofs, and nothing here need be believed. Assumes nothing.
use Rattle.std.specs.Prelude.{◌≡◌, ℕ, ◌+◌, ◌<◌, ◌≤◌, List, ◌++◌, length}
use Rattle.std.proofs.lemmas.List.Edits.{sets}
use Rattle.octets.specs.Number.{byte_at}

-- the bytes xs stand in s from i on
pub record Has (s : List ℕ) (i : ℕ) (xs : List ℕ) : Type 0 where
  pub room : i + length xs ≤ length s
  pub byte : (k : ℕ) → k < length xs → byte_at s (i + k) ≡ byte_at xs k

-- `next` is `area` with the bytes xs from `at` on and all else as it was; r is where they end, where the next writer goes on
pub record Wrote (area : List ℕ) (at : ℕ) (xs : List ℕ) (next : List ℕ) (r : ℕ) : Type 0 where
  pub is : next ≡ sets area at xs
  pub end : r ≡ at + length xs
  pub room : r ≤ length area

-- a writer under way: of `all`, that it writes into `a` from `at` on, `rest` is left, to go into b from p on
pub record Going (a : List ℕ) (at : ℕ) (all : List ℕ) (b : List ℕ) (p : ℕ) (rest : List ℕ) : Type 0 where
  pub done : List ℕ
  pub wrote : Wrote a at done b p
  pub join : all ≡ done ++ rest
