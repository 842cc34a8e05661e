-- LNAMs looked up among the FOIDs of all features. It serves the proofs, and nothing here need be believed. Assumes nothing.
use Rattle.std.specs.Prelude.{ℕ, Bool, List}
use Rattle.octets.specs.Lists.{is_in}

-- the same asked of the FOIDs of all features
unfoldable pub held_foid : List ℕ → ℕ → Bool
held_foid foids foid = is_in foid foids
