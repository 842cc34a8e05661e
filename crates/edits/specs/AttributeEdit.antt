-- The edit of a list of attributes, one change after the other. Over any type of attributes that have a label (ATTL) and may be a
-- mark of removal (the value 7F). Assumes nothing.
use Rattle.std.specs.Prelude.{ℕ, Bool, true, false, cond, ◌&&◌, ◌||◌, List, [], ◌∷◌, eqb}

-- is there an attribute of label k
unfoldable pub named : {E : Type 0} → (E → ℕ) → ℕ → List E → Bool
named label k [] = false
named label k (e ∷ es) = eqb (label e) k || named label k es

-- "An attribute in a modify replaces in its place, or is appended; 7F removes it"
unfoldable pub change : {E : Type 0} → (E → ℕ) → (E → Bool) → E → List E → List E
change label removes a [] = cond (removes a) [] (a ∷ [])
change label removes a (e ∷ es) = cond (eqb (label e) (label a)) (cond (removes a) es (a ∷ es)) (e ∷ change label removes a es)

-- "and must find it"
unfoldable pub finds : {E : Type 0} → (E → ℕ) → (E → Bool) → E → List E → Bool
finds label removes a held = cond (removes a) (named label (label a) held) true

-- all that the update brings, in its order
unfoldable pub changes : {E : Type 0} → (E → ℕ) → (E → Bool) → List E → List E → List E
changes label removes held [] = held
changes label removes held (a ∷ more) = changes label removes (change label removes a held) more

unfoldable pub changes_find : {E : Type 0} → (E → ℕ) → (E → Bool) → List E → List E → Bool
changes_find label removes held [] = true
changes_find label removes held (a ∷ more) = finds label removes a held && changes_find label removes (change label removes a held) more
