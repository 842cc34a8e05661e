-- Labels stamped in a table, as the code keeps them. It serves the proofs, and nothing here need be believed. Assumes nothing.
use Rattle.std.specs.Prelude.{ℕ, ◌≤◌, ◌<◌, List, ◌≡◌, get_or, eqb}
use Rattle.octets.specs.Lists.{is_in}

-- a table of 65,536 numbers in which the labels that were met have this stamp, and no other label has
pub record Stamped (t : List ℕ) (stamp : ℕ) (seen : List ℕ) : Type 0 where
  pub is : (l : ℕ) → l < 65536 → eqb (get_or t l 0) stamp ≡ is_in l seen

-- no stamp of the table is above this one
pub record Upto (t : List ℕ) (stamp : ℕ) : Type 0 where
  pub is : (l : ℕ) → get_or t l 0 ≤ stamp
