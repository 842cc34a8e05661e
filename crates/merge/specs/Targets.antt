-- Which targets an update may name, as proofs take it. It serves the proofs, and nothing here need be believed. Assumes nothing.
use Rattle.std.specs.Prelude.{ℕ, Bool, true, false, cond, ◌||◌, List, [], ◌∷◌, eqb}
use Rattle.merge.specs.Update.{Change}

-- whether this name is held
unfoldable pub holds : {A : Type 0} → (A → ℕ) → ℕ → List A → Bool
holds key n [] = false
holds key n (a ∷ l) = eqb (key a) n || holds key n l

-- "13 Target: insert of a held name or modify/delete of none"
unfoldable pub target_good : {A U : Type 0} → Change A U → List A → U → Bool
target_good by held u = cond (eqb (by.ruin u) 1) (cond (holds by.key (by.name u) held) false true) (holds by.key (by.name u) held)
