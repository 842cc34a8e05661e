-- A number of a list by its place, as the code picks the row of a kind. It serves the proofs, and nothing here need be believed. Assumes nothing.
use Rattle.std.specs.Prelude.{ℕ, List, ◌≡◌, get_or}

-- r stands at place k of the list
pub record Picked (rows : List ℕ) (k r : ℕ) : Type 0 where
  pub is : r ≡ get_or rows k 0
