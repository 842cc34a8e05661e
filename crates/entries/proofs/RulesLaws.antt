-- Laws of a rule on each entry and of a state taken through a list: of a list in parts. Assumes nothing.
use mathlib.Core.Bool.{Bool, true, false, ◌&&◌}
use mathlib.Core.List.{List, [], ◌∷◌, ◌++◌}
use mathlib.Core.Path.{◌≡◌, refl}
use Rattle.entries.specs.Rules.{all_of, through}

and_assoc : (a b d : Bool) → (a && b) && d ≡ a && (b && d)
and_assoc true b d = refl
and_assoc false b d = refl

-- a rule over a list in parts
pub all_append : {E : Type 0} (good : E → Bool) (xs ys : List E) → all_of good (xs ++ ys) ≡ all_of good xs && all_of good ys
unfolding all_of
all_append good [] ys = refl
all_append good (x ∷ xs) ys = rw (all_append good xs ys, and_assoc (good x))

-- a state handed from part to part
pub through_append : {E S : Type 0} (step : S → E → S) (s : S) (xs ys : List E) → through step s (xs ++ ys) ≡ through step (through step s xs) ys
unfolding through
through_append step s [] ys = refl
through_append step s (x ∷ xs) ys = through_append step (step s x) xs ys
