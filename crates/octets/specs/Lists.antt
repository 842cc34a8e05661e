-- Lists of numbers: what stands in them. Assumes nothing.
use Rattle.std.specs.Prelude.{ℕ, Bool, false, ◌||◌, List, [], ◌∷◌, ◌==◌}

-- is w one of the numbers of l
unfoldable pub is_in : ℕ → List ℕ → Bool
is_in w [] = false
is_in w (x ∷ l) = x == w || is_in w l
