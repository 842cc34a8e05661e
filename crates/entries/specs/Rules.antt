-- A rule that each entry of a list has to keep, and a state that is taken through a list; for every type of entries. Assumes
-- nothing.
use Rattle.std.specs.Prelude.{Bool, true, ◌&&◌, List, [], ◌∷◌}

-- each entry keeps the rule, as "no value 7F" in an insert
unfoldable pub all_of : {E : Type 0} → (E → Bool) → List E → Bool
all_of good [] = true
all_of good (e ∷ es) = good e && all_of good es

-- a state that each entry changes, from the first on
unfoldable pub through : {E S : Type 0} → (S → E → S) → S → List E → S
through step s [] = s
through step s (e ∷ es) = through step (step s e) es
