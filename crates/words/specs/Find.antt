-- Where a word belongs among words in ascending order. It serves the proofs, and nothing here need be believed. Assumes nothing.
use Rattle.std.specs.Prelude.{ℕ, suc, cond, List, [], ◌∷◌, ltb}

-- how many words at the front of l are below w: the place of the first that is not
unfoldable pub first_from : ℕ → List ℕ → ℕ
first_from w [] = 0
first_from w (x ∷ l) = cond (ltb x w) (suc (first_from w l)) 0
