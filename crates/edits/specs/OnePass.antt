-- The edit of a list of attributes in one pass, as it is written: each held attribute in its place, kept, replaced or gone; then those that are new,
-- in the update's order. Where no label comes twice this is one change after the other (`one_pass_lem`). It serves the proofs, and nothing here need be
-- believed. Assumes nothing.
use Rattle.std.specs.Prelude.{ℕ, Bool, true, cond, ◌&&◌, not, List, [], ◌∷◌, ◌++◌, eqb}
use Rattle.edits.specs.AttributeEdit.{named, finds}

-- what stands in the place of a held attribute e
unfoldable pub instead : {E : Type 0} → (E → ℕ) → (E → Bool) → E → List E → List E
instead label removes e [] = e ∷ []
instead label removes e (a ∷ more) = cond (eqb (label a) (label e)) (cond (removes a) [] (a ∷ [])) (instead label removes e more)

unfoldable pub worked : {E : Type 0} → (E → ℕ) → (E → Bool) → List E → List E → List E
worked label removes [] brought = []
worked label removes (e ∷ es) brought = instead label removes e brought ++ worked label removes es brought

-- those of the update that the held list has none of the label of
unfoldable pub fresh : {E : Type 0} → (E → ℕ) → List E → List E → List E
fresh label held [] = []
fresh label held (a ∷ more) = cond (named label (label a) held) (fresh label held more) (a ∷ fresh label held more)

unfoldable pub one_pass : {E : Type 0} → (E → ℕ) → (E → Bool) → List E → List E → List E
one_pass label removes held brought = worked label removes held brought ++ fresh label held brought

-- "7F removes it and must find it", of each that the update brings
unfoldable pub findable : {E : Type 0} → (E → ℕ) → (E → Bool) → List E → List E → Bool
findable label removes held [] = true
findable label removes held (a ∷ more) = finds label removes a held && findable label removes held more

-- "No ATTL twice"
unfoldable pub apart : {E : Type 0} → (E → ℕ) → List E → Bool
apart label [] = true
apart label (e ∷ es) = not (named label (label e) es) && apart label es

-- those whose labels are such
unfoldable pub those : {E : Type 0} → (E → ℕ) → (ℕ → Bool) → List E → List E
those label such [] = []
those label such (e ∷ es) = cond (such (label e)) (e ∷ those label such es) (those label such es)
