-- Worked examples: names looked up among three words, of which two have one name. Assumes nothing.
use Rattle.std.specs.Prelude.{ℕ, List, [], ◌∷◌, ◌≡◌, refl, Some, None}
use Rattle.lookups.specs.Lookup.{found_code}
use Rattle.lookups.specs.LookupWords.{lookup, index_from, index_of}

-- name 5 at place 7, name 6 at the places 100 and 200
held : List ℕ
held = 83886087 ∷ 100663396 ∷ 100663496 ∷ []

places : (lookup held 5 ≡ Some 7) × (lookup held 6 ≡ Some 100) × (lookup held 7 ≡ None)
unfolding held lookup
places = (refl, refl, refl)

indexes : (index_of held 5 ≡ Some 0) × (index_of held 6 ≡ Some 1) × (index_of held 4 ≡ None)
unfolding held index_of index_from
indexes = (refl, refl, refl)

codes : (found_code (lookup held 6) ≡ 0) × (found_code (lookup held 7) ≡ 18)
unfolding held lookup found_code
codes = (refl, refl)
