-- The classes of vectors and features. It serves the proofs, and nothing here need be believed. Assumes nothing.
use Rattle.std.specs.Prelude.{ℕ, Bool, ◌||◌, cond, eqb, List, Option, None}
use Rattle.items.specs.Identity.{name_from}
use Rattle.lookups.specs.LookupWords.{lookup}

-- "110 isolated node, 120 connected node, 130 edge, 100 feature": the classes of vectors and features
unfoldable pub is_class : ℕ → Bool
is_class rcnm = eqb rcnm 110 || (eqb rcnm 120 || (eqb rcnm 130 || eqb rcnm 100))

-- ---- the place of a name by words
unfoldable pub place_named : List ℕ → ℕ → ℕ → Option ℕ
place_named ws rcnm rcid = cond (is_class rcnm) (lookup ws (name_from rcnm rcid)) None
